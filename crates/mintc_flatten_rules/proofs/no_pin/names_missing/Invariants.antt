use Rattle.std.proofs.Common.{◌≡◌, drop, not}
use Rattle.std.specs.List.{list_any}
use Rattle.mintc_netlist.specs.Connections.{named_pins}
use Rattle.mintc_flatten_hierarchy.specs.Sources.{source_of}
use Rattle.mintc_flatten_rules.specs.Lacking.{is_pin}
use Rattle.mintc_flatten_rules.proofs.no_pin.names_missing.Given as goal

-- the connections that are left name a missing pin where all do
abbrev pub invariant-loop-connection : goal.invariant-loop-connection
invariant-loop-connection l = let s = source_of l.netlist.cells.now l.netlist.modules.now in
    list_any (λ name. not (is_pin s l.binding name)) (named_pins (drop l.connection-index l.connections)) ≡ list_any (λ name. not (is_pin s l.binding name)) (named_pins l.connections)
