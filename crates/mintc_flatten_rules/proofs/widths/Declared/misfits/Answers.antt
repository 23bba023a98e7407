use Rattle.std.proofs.Common.{ℕ, List, false, sym, ap, ◌∙◌}
use Rattle.std.specs.List.{list_any, find}
use Rattle.std.specs.Option.{option_map_or}
use Rattle.mintc_netlist.specs.Nets.{declares_port, declares_net}
use Rattle.mintc_flatten_binding.specs.NetsOfModules.{source_in}
use Rattle.mintc_flatten_hierarchy.specs.Faults.{is_of_other_range}
use Rattle.mintc_flatten_rules.specs.Widths.{differs, misfits_after}
use Rattle.mintc_flatten_rules.proofs.WidthLaws.{any_same, other_nets, other_ports}
use Rattle.mintc_flatten_rules.proofs.widths.Declared.misfits.Goals as goal

pub returns-in-Port : goal.returns-in-Port
returns-in-Port c before h =
    let ports = c.args.self.now.ports in
    let nets = c.args.self.now.nets in
    let span = c.in-Port.span in
    c.any_differs.ensures
    ∙ ap (list_any (differs nets span)) c.items.ensures
    ∙ any_same (differs nets span) (λ (name : List ℕ). option_map_or (is_of_other_range span) (find (declares_net name) before) false) c.in-Port.names (λ name. other_nets ports nets before span name h)
    ∙ ap (misfits_after (source_in c.args.site.now.source) c.args.site.now.module_nets.part.now before) (sym c.in-Port.is)

pub returns-in-Wire : goal.returns-in-Wire
returns-in-Wire c before h =
    let ports = c.args.self.now.ports in
    let nets = c.args.self.now.nets in
    let span = c.in-Wire.span in
    c.any_differs-in-Wire.ensures
    ∙ ap (list_any (differs ports span)) c.items-in-Wire.ensures
    ∙ any_same (differs ports span) (λ (name : List ℕ). option_map_or (is_of_other_range span) (find (declares_port name) before) false) c.in-Wire.names (λ name. other_ports ports nets before span name h)
    ∙ ap (misfits_after (source_in c.args.site.now.source) c.args.site.now.module_nets.part.now before) (sym c.in-Wire.is)
