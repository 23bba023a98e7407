use Rattle.std.proofs.Common.{◌≡◌, ◌++◌, List, Some, sym, ap, subst, ◌∙◌}
use Rattle.std.specs.Result.{OnOk}
use Rattle.mintc_netlist.specs.Connections.{expression_at}
use Rattle.mintc_flatten_hierarchy.specs.declared.hierarchy.Join.{Join}
use Rattle.mintc_flatten_binding.specs.NetsOfModules.{source_in}
use Rattle.mintc_flatten_hierarchy.specs.Walks.{place_at}
use Rattle.mintc_flatten_hierarchy.specs.Hierarchies.{wiring_joins}
use Rattle.mintc_flatten_binding.specs.Wired.{pin_at}
use Rattle.mintc_flatten.proofs.JoinLaws.{wired_some, wiring-is}
use Rattle.mintc_flatten.proofs.joins.push_pin_joins.Goals as goal

pub returns : goal.returns
returns c =
    let pin = pin_at (source_in c.args.site.now.source) c.args.instance.now.binding c.args.number in
    let item = c.args.instance.now.item.now in
    let pieces = c.items.result.now in
    let found : expression_at item c.args.number pin.name ≡ Some pieces = ap (expression_at item c.args.number) (sym c.pin_name-name.ensures) ∙ c.in-Some.ensures ∙ ap Some (sym c.items.ensures) in
    let joins = wiring_joins (place_at c.args.site.now.module_nets.part.now 0 c.args.site.now.first) c.args.site.now.own in
    subst (λ (js : List Join). OnOk c.push_joins.result (c.push_joins.new.joins.items ≡ c.args.joins.now.items ++ js))
    (wiring-is c.args.site.now.module_nets.part.now c.args.site.now.first c.args.site.now.own pin pieces c.is_output-output.result c.find.new.self.pin.items c.find.new.self.net.items c.is_output-output.ensures c.in_ok-find.ensures.pin c.in_ok-find.ensures.net
    ∙ sym (wired_some joins pin (expression_at item c.args.number pin.name) pieces found))
    c.push_joins.ensures
