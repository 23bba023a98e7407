use Rattle.std.proofs.Common.{◌≡◌, [], take, drop, bytes_eq}
use Rattle.mintc_netlist.specs.Again.{comes_again}
use Rattle.mintc_netlist.specs.Connections.{named_pins}
use Rattle.mintc_flatten_rules.proofs.name_twice.few_pins_again.Given as goal

-- whether a pin comes again depends on what is left
abbrev pub invariant-loop-number : goal.invariant-loop-number
invariant-loop-number l =
    comes_again bytes_eq (named_pins (take l.number l.connections)) (named_pins (drop l.number l.connections)) ≡ comes_again bytes_eq [] (named_pins l.connections)
