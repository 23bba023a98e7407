use Rattle.std.proofs.Common.{◌≡◌, drop}
use Rattle.mintc_text_names.specs.Names.{is_among}
use Rattle.mintc_netlist.specs.Connections.{named_pins}
use Rattle.mintc_flatten_rules.proofs.name_twice.is_named.Given as goal

-- the connections that are left name the pin where all do
abbrev pub invariant-loop-connection : goal.invariant-loop-connection
invariant-loop-connection l = is_among l.pin (named_pins (drop l.connection-index l.connections)) ≡ is_among l.pin (named_pins l.connections)
