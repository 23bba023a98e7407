use Rattle.std.proofs.lemmas.Grind.{common_steps}
use Rattle.std.proofs.Common.{◌≡◌, ◌<◌, ℕ, List, length, get_or, ap, ◌∙◌, arith}
use Rattle.std.proofs.lemmas.List.{get_or_default}
use Rattle.mintc_timing.specs.Design.{no_arc}
use Rattle.mintc_timing.specs.Paths.{arc_at}
use Rattle.mintc_paths.proofs.Filling.{arc_inside}
use Rattle.mintc_paths.proofs.rows.ArcSequence.new.Goals as goal

pub arcs_by_row-requires-clause-inside : goal.arcs_by_row-requires-clause-inside
arcs_by_row-requires-clause-inside c = λ k d below.
    let arcs = c.args.flat.now.arcs in
    let order = c.args.order.now in
    let rows = c.args.rows.of_bits.items in
    let h = c.loop-number.invariant in
    let items : length c.items-numbers.result.now ≡ length order = ap (λ (xs : List ℕ). length xs) (c.items-numbers.ensures ∙ c.arcs.ensures) in
    let here : k < length c.loop-number.along.items = rw c.deref.ensures.value at below in
    let arc = arc_inside arcs order c.requires.order (length c.args.flat.now.elements) (length c.args.flat.now.inner) c.arcs-arcs.ensures.kept.each_arc k (omega (arith, h.count)) in
    let row = c.requires.rows.of_bits.inside (arc_at arcs (get_or order k 0)).from (omega (arith, arc.from)) in
    let is = get_or_default c.loop-number.along.items k d no_arc here ∙ h.each k (omega (arith, h.count)) in
    rw (c.deref.ensures.value, is) (omega (arith, c.requires.rows.of_bits.count, c.args.rows.of_bits.ok.0))

pub loop-number-preserved : goal.loop-number-preserved
loop-number-preserved c = grind (arith, common_steps)
