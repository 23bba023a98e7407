use Rattle.std.proofs.lemmas.Grind.{common_steps}
use Rattle.std.proofs.Common.{◌≡◌, ◌<◌, ◌+◌, ◌*◌, ℕ, List, length, get_or, ap, ◌∙◌, arith}
use Rattle.std.proofs.lemmas.List.{get_or_default}
use Rattle.mintc_timing.specs.Design.{no_arc}
use Rattle.mintc_timing.specs.Limits.{IsArc}
use Rattle.mintc_timing.specs.Paths.{arc_at}
use Rattle.mintc_paths_sums.specs.Placed.{row_of}
use Rattle.mintc_paths.proofs.Along.{AreGiven-met, AreGiven-more, AreAlong-met, AreAlong-more}
use Rattle.mintc_paths.proofs.Filling.{arc_inside}
use Rattle.mintc_paths.proofs.rows.ArcSequence.along.Goals as goal

pub loop-number-preserved : goal.loop-number-preserved
loop-number-preserved c =
    let arcs = c.args.flat.now.arcs in
    let order = c.args.order.now in
    let k = c.loop-number.number-index in
    let n = 2 * length c.args.flat.now.elements + length c.args.flat.now.inner in
    let h = c.loop-number.invariant in
    let first = c.loop-number.rows.of_bits.items in
    let second = c.meet-given.new.self.of_bits.items in
    let third = c.meet-given-in-loop-number.new.self.of_bits.items in
    let inside : (i : ℕ) → i < length order → IsArc (length c.args.flat.now.elements) (length c.args.flat.now.inner) (arc_at arcs (get_or order i 0)) =
    λ i below. arc_inside arcs order c.requires (length c.args.flat.now.elements) (length c.args.flat.now.inner) c.arcs-arcs.ensures.kept.each_arc i below in
    let items : length c.items-numbers.result.now ≡ length order = ap (λ (xs : List ℕ). length xs) (c.items-numbers.ensures ∙ c.arcs.ensures) in
    let low : k < length order = omega (arith, items, c.loop-number-test.true) in
    let from : (i : ℕ) → i < k → (arc_at arcs (get_or order i 0)).from < n = λ i below. (inside i (omega (arith, low, below))).from in
    let to : (i : ℕ) → i < k → (arc_at arcs (get_or order i 0)).to < n = λ i below. (inside i (omega (arith, low, below))).to in
    let met = c.meet-given.ensures.met in
    let met_to = c.meet-given-in-loop-number.ensures.met in
    let second_count : length second ≡ n = omega (arith, h.rows.of_bits.count, c.meet-given.ensures.rows.of_bits.count) in
    let along = AreAlong-met arcs order n first second h.rows.of_bits.count _ _ _ k met from to h.given c.loop-number.along.items h.along in
    let given = AreGiven-met arcs order n first second h.rows.of_bits.count _ _ _ k met from to h.given in
    let along_to = AreAlong-met arcs order n second third second_count _ _ _ k met_to from to given c.loop-number.along.items along in
    let given_to = AreGiven-met arcs order n second third second_count _ _ _ k met_to from to given in
    let own_from : row_of third (arc_at arcs (get_or order k 0)).from < c.meet-given-in-loop-number.result = grind (arith, common_steps) in
    let own_to : row_of third (arc_at arcs (get_or order k 0)).to < c.meet-given-in-loop-number.result = grind (arith, common_steps) in
    record {
      rows = grind (arith, common_steps);
      along = AreAlong-more arcs order third k c.loop-number.along.items c.push.new.self.items _ along_to c.in_ok-push.ensures.items (grind (arith, common_steps));
      given = AreGiven-more arcs order third c.meet-given-in-loop-number.result k given_to own_from own_to;
    }

pub arcs_by_row-requires-clause-inside : goal.arcs_by_row-requires-clause-inside
arcs_by_row-requires-clause-inside c = λ k d below.
    let arcs = c.args.flat.now.arcs in
    let order = c.args.order.now in
    let h = c.loop-number.invariant in
    let items : length c.items-numbers.result.now ≡ length order = ap (λ (xs : List ℕ). length xs) (c.items-numbers.ensures ∙ c.arcs.ensures) in
    let here : k < length c.loop-number.along.items = rw c.deref.ensures.value at below in
    let arc = arc_inside arcs order c.requires (length c.args.flat.now.elements) (length c.args.flat.now.inner) c.arcs-arcs.ensures.kept.each_arc k (omega (arith, h.along.count)) in
    let row = h.rows.of_bits.inside (arc_at arcs (get_or order k 0)).from (omega (arith, arc.from)) in
    let is = get_or_default c.loop-number.along.items k d no_arc here ∙ h.along.each k (omega (arith, h.along.count)) in
    rw (c.deref.ensures.value, is) (omega (arith, h.rows.of_bits.count, c.loop-number.rows.of_bits.ok.0))
