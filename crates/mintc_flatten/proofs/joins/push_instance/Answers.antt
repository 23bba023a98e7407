use Rattle.std.proofs.Common.{◌≤◌, ◌<◌, ℕ, length, sym, subst, ◌∙◌}
use Rattle.mintc_flatten_hierarchy.specs.Sources.{binding_pins}
use Rattle.mintc_flatten_binding.specs.NetsOfModules.{source_in}
use Rattle.mintc_flatten_hierarchy.specs.Walks.{place_at}
use Rattle.mintc_flatten_hierarchy.specs.Hierarchies.{wiring_joins}
use Rattle.mintc_flatten.proofs.JoinLaws.{wirings_turn, wirings_end}
use Rattle.mintc_flatten.proofs.joins.push_instance.Goals as goal

pub loop-number-preserved : goal.loop-number-preserved
loop-number-preserved c =
    let s = source_in c.args.site.now.source in
    let k = c.loop-number.number in
    let inside : k < length (binding_pins s c.args.binding) = subst (λ (n : ℕ). k < n) c.in_ok-count.ensures c.loop-number-test.true in
    wirings_turn (wiring_joins (place_at c.args.site.now.module_nets.part.now 0 c.args.site.now.first) c.args.site.now.own) c.args.item.now s c.args.binding k c.loop-number.joins.items c.push_pin_joins.new.joins.items inside c.in_ok-push_pin_joins.ensures
    ∙ c.loop-number.invariant

pub returns : goal.returns
returns c =
    let pins = binding_pins (source_in c.args.site.now.source) c.args.binding in
    let k = c.loop-number.number in
    let past : length pins ≤ k = subst (λ (n : ℕ). n ≤ k) c.in_ok-count.ensures c.loop-number-test.false in
    sym (wirings_end (wiring_joins (place_at c.args.site.now.module_nets.part.now 0 c.args.site.now.first) c.args.site.now.own) c.args.item.now pins k c.loop-number.joins.items past)
    ∙ c.loop-number.invariant
