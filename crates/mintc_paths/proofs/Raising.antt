-- Sums that are raised from row to row along a sequence are raised from bit to bit.
use Rattle.std.proofs.Common.{◌≡◌, ◌≢◌, ◌<◌, ◌≤◌, ◌+◌, ◌*◌, ⊎_elim, ℕ, ℤ, pos, ◌+ℤ◌, ◌≤ℤ◌, List, length, get_or, replicate, arith, ap, ◌∙◌, subst, All}
use Rattle.std.proofs.lemmas.Bool.{cases_lt}
use Rattle.std.proofs.lemmas.Int.{ints}
use Rattle.std.proofs.lemmas.List.{get_or-map, get_or_past}
use Rattle.std.proofs.lemmas.List.Elements.{All-map}
use Rattle.std.proofs.Math.ListN.{length-map}
use Rattle.mintc_timing.specs.declared.parts.TimingArc.{TimingArc}
use Rattle.mintc_timing.specs.Design.{Design}
use Rattle.mintc_timing.specs.Limits.{IsDesign}
use Rattle.mintc_timing.specs.Order.{IsOrder}
use Rattle.mintc_timing.specs.Paths.{arc_at}
use Rattle.mintc_paths_sums.specs.Placed.{row_of}
use Rattle.mintc_paths.specs.declared.rows.ArcSequence.{ArcSequence}
use Rattle.mintc_paths.specs.Longest.{bit_sum, bit_sums, AreCarried}
use Rattle.mintc_paths.specs.Sums.{moved, IsSequence}
use Rattle.mintc_paths.proofs.SharedPassing.{arc_of, from_in, to_in, in_design, few_arcs}
use Rattle.mintc_paths.proofs.Rowing.{moved_others}
use Rattle.mintc_paths.proofs.Plain.{AreCarried-zeros, carried_more, none_at, within_at}

-- what a call of raise leaves in the rows
pub record IsRaised (arc : TimingArc) (old new : List ℤ) : Type 0 where
  pub others : (row : ℕ) → row ≢ arc.to → bit_sum new row ≡ bit_sum old row
  pub kept : bit_sum old arc.to ≤ℤ bit_sum new arc.to
  pub raised : (bit_sum old arc.from +ℤ arc.max) ≤ℤ bit_sum new arc.to
  pub limit : (most : ℤ) → bit_sum old arc.to ≤ℤ most → (bit_sum old arc.from +ℤ arc.max) ≤ℤ most → bit_sum new arc.to ≤ℤ most

sum_placed : (rows : List ℕ) (sums : List ℤ) (bit : ℕ) → bit < length rows → bit_sum (bit_sums rows sums) bit ≡ bit_sum sums (row_of rows bit)
sum_placed rows sums bit below = get_or-map (bit_sum sums) rows bit 0 (pos 0) below

-- before any arc
pub AreCarried_no_rows : (arcs : List TimingArc) (order rows : List ℕ) (n : ℕ) (sums : List ℤ) → sums ≡ replicate n (pos 0) → AreCarried arcs order 0 (bit_sums rows sums)
AreCarried_no_rows arcs order rows n sums same =
    AreCarried-zeros arcs order (bit_sums rows sums) (λ bit. ⊎_elim
    (λ (low : bit < length rows). sum_placed rows sums bit low ∙ ap (λ (x : List ℤ). bit_sum x (row_of rows bit)) same ∙ none_at n (row_of rows bit))
    (λ (past : length rows ≤ bit). get_or_past (bit_sums rows sums) bit (pos 0) (omega (arith, length-map rows (bit_sum sums))))
    (cases_lt bit (length rows)))

pub within_placed : (rows : List ℕ) (sums : List ℤ) → All (λ z. z ≤ℤ pos 1000000000) sums → All (λ z. z ≤ℤ pos 1000000000) (bit_sums rows sums)
within_placed rows sums all = All-map (λ (z : ℤ). z ≤ℤ pos 1000000000) (bit_sum sums) rows (λ i d below. within_at sums (get_or rows i d) all)

module _ (design : Design) (order : List ℕ) (is_order : IsOrder design.arcs order) (kept : IsDesign design) (sequence : ArcSequence) (n : ℕ) (is_sequence : IsSequence n design.arcs order sequence)
    (bits : n ≡ 2 * length design.elements + length design.inner) where
  abbrev rows : List ℕ
  rows = sequence.rows.of_bits.items

  abbrev here : ℕ → TimingArc
  here k = arc_of design order is_order kept sequence n is_sequence bits k

  at_from : (sums : List ℤ) (k : ℕ) → k < length order → bit_sum (bit_sums rows sums) (here k).from ≡ bit_sum sums (row_of rows (here k).from)
  at_from sums k low = sum_placed rows sums (here k).from (omega (arith, is_sequence.rows.of_bits.count, from_in design order is_order kept sequence n is_sequence bits k low))

  at_to : (sums : List ℤ) (k : ℕ) → k < length order → bit_sum (bit_sums rows sums) (here k).to ≡ bit_sum sums (row_of rows (here k).to)
  at_to sums k low = sum_placed rows sums (here k).to (omega (arith, is_sequence.rows.of_bits.count, to_in design order is_order kept sequence n is_sequence bits k low))

  pub row_low : (sums : List ℤ) (k : ℕ) → k < length order → AreCarried design.arcs order k (bit_sums rows sums) → pos 0 ≤ℤ bit_sum sums (arc_at sequence.along.items k).from
  row_low sums k low h = rw (is_sequence.along.each k low) (omega (arith, ints, at_from sums k low, h.low (here k).from))

  pub row_high : (sums : List ℤ) (k : ℕ) → k < length order → AreCarried design.arcs order k (bit_sums rows sums) → bit_sum sums (arc_at sequence.along.items k).from ≤ℤ pos 20000000000000000
  row_high sums k low h = rw (is_sequence.along.each k low) (omega (arith, ints, few_arcs design order is_order kept sequence n is_sequence bits k low, h.high (here k).from, at_from sums k low))

  pub raised_along : (old new : List ℤ) (k : ℕ) → k < length order → IsRaised (arc_at sequence.along.items k) old new →
      AreCarried design.arcs order k (bit_sums rows old) → AreCarried design.arcs order (k + 1) (bit_sums rows new)
  raised_along old new k low g h =
      let arc : TimingArc = here k in
      let raised : IsRaised (moved rows arc) old new = subst (λ (a : TimingArc). IsRaised a old new) (is_sequence.along.each k low) g in
      let old_from = at_from old k low in
      let old_to = at_to old k low in
      let new_to = at_to new k low in
      let from_high = h.high arc.from in
      let to_high = h.high arc.to in
      let delay = (in_design design order is_order kept sequence n is_sequence bits k low).max in
      let limit = raised.limit (pos ((k + 1) * 1000000000)) (omega (arith, ints)) (omega (arith, ints)) in
      carried_more design.arcs order is_order k (bit_sums rows old) (bit_sums rows new) low h
      (moved_others n rows sequence.rows.bits.items is_sequence.rows.of_bits (bit_sum new) (bit_sum old) (pos 0) arc.to (to_in design order is_order kept sequence n is_sequence bits k low) raised.others)
      (omega (arith, ints)) (omega (arith, ints)) (omega (arith, ints))
