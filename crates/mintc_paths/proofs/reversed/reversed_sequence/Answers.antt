use Rattle.std.proofs.Common.{◌≡◌, ◌<◌, ◌+◌, ◌-◌, ◌*◌, ◌∙◌, ℕ, List, length, get_or, arith, ap, refl}
use Rattle.std.specs.Vec.{with_items}
use Rattle.std.proofs.lemmas.List.{with_items_is, get_or_default}
use Rattle.mintc_timing.specs.declared.parts.TimingArc.{TimingArc}
use Rattle.mintc_timing.specs.Design.{no_arc}
use Rattle.mintc_timing.specs.Paths.{arc_at}
use Rattle.mintc_paths.specs.declared.rows.ArcSequence.{ArcSequence}
use Rattle.mintc_paths.specs.Reversed.{flipped}
use Rattle.mintc_paths.proofs.SharedPassing.{row_to_in}
use Rattle.mintc_paths.proofs.ReversedSequence.{IsSequence-reversed}
use Rattle.mintc_paths.proofs.reversed.reversed_sequence.Goals as goal
use Rattle.mintc_paths.proofs.reversed.reversed_sequence.Goals.{After-len}

-- there are as many arcs as before
along_count : (c : After-len) → length c.reverse_arcs.new.along ≡ length c.args.sequence.along.items
along_count c = omega (arith, c.reverse_arcs.auto.along, ap (λ (xs : List TimingArc). length xs) c.deref_mut.ensures.value)

along_is : (c : After-len) → (with_items c.args.sequence.along c.reverse_arcs.new.along).items ≡ c.reverse_arcs.new.along
along_is c = with_items_is c.args.sequence.along c.reverse_arcs.new.along (omega (arith, along_count c, c.args.sequence.along.ok.0))

-- an arc, reversed
arc_is : (c : After-len) (i : ℕ) → i < length c.args.sequence.along.items → arc_at c.reverse_arcs.new.along i ≡ flipped (arc_at c.args.sequence.along.items (length c.args.sequence.along.items - 1 - i))
arc_is c i low = rw c.deref_mut.ensures.value at (c.reverse_arcs.ensures i (omega (arith, along_count c, c.reverse_arcs.auto.along)))

-- there are as many rows as bits
bits_are : (c : After-len) → c.len.result ≡ 2 * length c.args.flat.now.elements + length c.args.flat.now.inner
bits_are c = omega (arith, c.in_ok-rows.rows.of_bits.ok.0, c.in_ok-rows.ensures.rows.of_bits.count, c.requires.sequence.rows.of_bits.count, c.len.ensures)

pub returns : goal.returns
returns c =
    let at = (goal.at.returns c).After-len in
    let old = c.args.sequence in
    let new : ArcSequence = record { rows = c.in_ok-rows.rows; along = with_items old.along c.reverse_arcs.new.along; leaving = c.in_ok-leaving.leaving } in
    let rows = rw c.requires.sequence.rows.of_bits.count at c.in_ok-rows.ensures.rows in
    IsSequence-reversed c.args.flat.now c.args.order.now c.requires.order c.element_count-elements.ensures.kept old new c.args.places.now c.requires.places c.requires.sequence rows
    (λ bit low. rw c.element_count-elements.ensures.value at (c.in_ok-rows.ensures.each bit (omega (arith, c.requires.sequence.rows.of_bits.count))))
    (ap (λ (xs : List TimingArc). length xs) (along_is at) ∙ along_count at)
    (λ i low. ap (λ xs. arc_at xs i) (along_is at) ∙ arc_is at i low)
    (rw (c.deref.ensures.value, bits_are at) at c.in_ok-leaving.ensures)

pub arcs_by_row-requires-clause-inside : goal.arcs_by_row-requires-clause-inside
arcs_by_row-requires-clause-inside c k d below =
    let at = (goal.at.arcs_by_row-requires-clause-inside c).After-len in
    let n : ℕ = 2 * length c.args.flat.now.elements + length c.args.flat.now.inner in
    let old = c.args.sequence.along.items in
    let items = c.deref.ensures.value ∙ along_is at in
    let low : k < length old = omega (arith, along_count at, ap (λ (xs : List TimingArc). length xs) items) in
    let is = ap (λ (xs : List TimingArc). get_or xs k d) items ∙ get_or_default c.reverse_arcs.new.along k d no_arc (omega (arith, along_count at)) ∙ arc_is at k low in
    let inside = row_to_in c.args.flat.now c.args.order.now c.requires.order c.element_count-elements.ensures.kept c.args.sequence n c.requires.sequence refl (length old - 1 - k) (omega (arith, c.requires.sequence.along.count)) in
    rw is (omega (arith, inside, bits_are at))
