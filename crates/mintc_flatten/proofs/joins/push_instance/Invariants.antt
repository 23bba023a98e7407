use Rattle.std.proofs.Common.{◌≡◌, ◌++◌, drop}
use Rattle.std.specs.List.{flat_map}
use Rattle.mintc_netlist.specs.Connections.{wirings_from, wirings_of}
use Rattle.mintc_flatten_hierarchy.specs.Sources.{binding_pins}
use Rattle.mintc_flatten_binding.specs.NetsOfModules.{source_in}
use Rattle.mintc_flatten_hierarchy.specs.Walks.{place_at}
use Rattle.mintc_flatten_hierarchy.specs.Hierarchies.{wiring_joins}
use Rattle.mintc_flatten.proofs.joins.push_instance.Given as goal

-- with the joins of the pins that are left there are as many as of all
abbrev pub invariant-loop-number : goal.invariant-loop-number
invariant-loop-number l =
    let joins = wiring_joins (place_at l.site.module_nets.part.now 0 l.site.first) l.site.own in
    let pins = binding_pins (source_in l.site.source) l.instance.binding in
    l.joins.items ++ flat_map joins (wirings_from l.number l.item (drop l.number pins)) ≡ l.initial.joins.items ++ flat_map joins (wirings_of l.item pins)
