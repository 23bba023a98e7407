use Rattle.std.proofs.Common.{◌≡◌, drop}
use Rattle.std.specs.List.{list_any}
use Rattle.mintc_netlist.specs.Connections.{wirings_from, wirings_of}
use Rattle.mintc_flatten_hierarchy.specs.Sources.{binding_pins}
use Rattle.mintc_flatten_binding.specs.NetsOfModules.{source_in}
use Rattle.mintc_flatten_hierarchy.specs.Faults.{is_wired_badly}
use Rattle.mintc_flatten_rules.proofs.widths.any_misfits.Given as goal

-- the pins that are left have one where all have
abbrev pub invariant-loop-number : goal.invariant-loop-number
invariant-loop-number l = let pins = binding_pins (source_in l.site.source) l.instance.binding in
    list_any (is_wired_badly l.site.module_nets.part.now) (wirings_from l.number l.instance.item.now (drop l.number pins)) ≡ list_any (is_wired_badly l.site.module_nets.part.now) (wirings_of l.instance.item.now pins)
