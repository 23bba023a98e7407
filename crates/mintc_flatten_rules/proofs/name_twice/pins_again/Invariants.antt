use Rattle.std.proofs.Common.{◌≡◌, [], drop, bytes_eq}
use Rattle.mintc_netlist.specs.Again.{comes_again}
use Rattle.mintc_netlist.specs.Connections.{named_pins}
use Rattle.mintc_flatten_rules.proofs.name_twice.pins_again.Given as goal

-- whether a pin comes again depends on what is left
abbrev pub invariant-loop-connection : goal.invariant-loop-connection
invariant-loop-connection l = comes_again bytes_eq l.names (named_pins (drop l.connection-index l.connections)) ≡ comes_again bytes_eq [] (named_pins l.connections)
