use Rattle.std.proofs.Common.{◌≡◌, ◌+◌, ◌∷◌, List, drop, get_or, sym, ap, ◌∙◌}
use Rattle.std.proofs.lemmas.List.{drop_more}
use Rattle.mintc_netlist.specs.declared.module.Item.{Item}
use Rattle.mintc_flatten_binding.specs.NetsOfModules.{source_in}
use Rattle.mintc_flatten_hierarchy.specs.Walks.{place_at, steps_from, inside}
use Rattle.mintc_flatten.specs.Growing.{Lists, sizes, grown_all}
use Rattle.mintc_flatten.proofs.GrowingLaws.{grown-turn}
use Rattle.mintc_flatten.proofs.walk.Walk.+walk.Goals as goal

pub enter-loop-at-preserved : goal.enter-loop-at-preserved
enter-loop-at-preserved t c =
    let s = source_in c.args.plan.now.source in
    let place = place_at (get_or s.modules c.args.start.number c.index-plan-number.result) c.args.start.scope c.args.start.first in
    let items = c.items-items.result.now in
    let at = c.loop-at.at in
    let i = c.index-items-at.result in
    let front : drop at items ≡ i ∷ drop (at + 1) items = drop_more items at i c.loop-at-test.true ∙ ap (λ (x : Item). x ∷ drop (at + 1) items) (sym c.index-items-at.is) in
    ap (λ (l : Lists). grown_all s l (steps_from s (inside s c.args.deep) place (sizes l) (drop (at + 1) items))) c.in_ok-visit.ensures
    ∙ sym (grown-turn s (inside s c.args.deep) place c.loop-at.self i (drop (at + 1) items))
    ∙ sym (ap (λ (is : List Item). grown_all s c.loop-at.self (steps_from s (inside s c.args.deep) place (sizes c.loop-at.self) is)) front)
    ∙ c.loop-at.invariant
