-- A sequence reversed is one of the design reversed.
use Rattle.std.proofs.Common.{◌≡◌, ℕ, ◌<◌, ◌≤◌, ◌+◌, ◌-◌, ◌*◌, List, length, get_or, reverse, arith, refl, ap, ◌∙◌, sym, subst}
use Rattle.std.proofs.lemmas.List.{length-reverse}
use Rattle.mintc_timing.specs.declared.parts.TimingArc.{TimingArc}
use Rattle.mintc_timing.specs.Design.{Design}
use Rattle.mintc_timing.specs.Limits.{IsArc, IsDesign}
use Rattle.mintc_timing.specs.Order.{IsOrder}
use Rattle.mintc_timing.specs.Paths.{arc_at}
use Rattle.mintc_paths_sums.specs.Placed.{row_of}
use Rattle.mintc_paths.specs.declared.rows.Rows.{Rows}
use Rattle.mintc_paths.specs.declared.rows.ArcSequence.{ArcSequence}
use Rattle.mintc_paths.specs.Leaving.{AreLeaving}
use Rattle.mintc_paths.specs.Sums.{moved, AreRows, IsSequence}
use Rattle.mintc_paths.specs.Reversed.{reversed_bit, bit_before, flipped, reversed_arcs}
use Rattle.mintc_paths.proofs.Filling.{arc_inside}
use Rattle.mintc_paths.proofs.Reversing.{before_reversed, reversed_before, reversed_below, before_below}
use Rattle.mintc_paths.proofs.SharedReversedPaths.{reversed_at}

module _ (n total : ℕ) (all : 2 * n ≤ total) (places : Rows) (are_places : AreRows n places) (old new : Rows) (h : AreRows total old)
    (count : length new.of_bits.items ≡ length old.of_bits.items)
    (each : (bit : ℕ) → bit < total → row_of new.of_bits.items bit ≡ row_of old.of_bits.items (bit_before n places.bits.items bit))
    (count_bits : length new.bits.items ≡ length old.bits.items)
    (each_bits : (row : ℕ) → row < total → row_of new.bits.items row ≡ reversed_bit n places.of_bits.items (row_of old.bits.items row)) where
  abbrev goes : ℕ → ℕ
  goes = reversed_bit n places.of_bits.items

  abbrev was : ℕ → ℕ
  was = bit_before n places.bits.items

  was_in : (bit : ℕ) → bit < total → was bit < total
  was_in bit low = omega (arith, before_below n places.of_bits.items places.bits.items are_places.of_bits are_places.bits (total - 2 * n) bit (omega arith))

  goes_in : (bit : ℕ) → bit < total → goes bit < total
  goes_in bit low = omega (arith, reversed_below n places.of_bits.items places.bits.items are_places.of_bits are_places.bits (total - 2 * n) bit (omega arith))

  goes_was : (bit : ℕ) → goes (was bit) ≡ bit
  goes_was = reversed_before n places.of_bits.items places.bits.items are_places.of_bits are_places.bits

  was_goes : (bit : ℕ) → was (goes bit) ≡ bit
  was_goes = before_reversed n places.of_bits.items places.bits.items are_places.of_bits are_places.bits

  pub AreRows-reversed : AreRows total new
  AreRows-reversed = record {
    of_bits = record {
      count = count ∙ h.of_bits.count;
      inside = λ x low. subst (λ r. r < total) (sym (each x low)) (h.of_bits.inside (was x) (was_in x low));
      leads = λ x low. ap (row_of new.bits.items) (each x low) ∙ each_bits (row_of old.of_bits.items (was x)) (h.of_bits.inside (was x) (was_in x low))
          ∙ ap goes (h.of_bits.leads (was x) (was_in x low)) ∙ goes_was x;
    };
    bits = record {
      count = count_bits ∙ h.bits.count;
      inside = λ y low. subst (λ b. b < total) (sym (each_bits y low)) (goes_in (row_of old.bits.items y) (h.bits.inside y low));
      leads = λ y low. ap (row_of new.of_bits.items) (each_bits y low) ∙ each (goes (row_of old.bits.items y)) (goes_in (row_of old.bits.items y) (h.bits.inside y low))
          ∙ ap (row_of old.of_bits.items) (was_goes (row_of old.bits.items y)) ∙ h.bits.leads y low;
    };
  }

  pub rows_reversed : (bit : ℕ) → bit < total → row_of new.of_bits.items (goes bit) ≡ row_of old.of_bits.items bit
  rows_reversed bit low = each (goes bit) (goes_in bit low) ∙ ap (row_of old.of_bits.items) (was_goes bit)

module _ (design : Design) (order : List ℕ) (is_order : IsOrder design.arcs order) (kept : IsDesign design) (sequence new : ArcSequence) (places : Rows) (are_places : AreRows (length design.elements) places) where
  abbrev n : ℕ
  n = length design.elements

  abbrev m : ℕ
  m = length design.inner

  module _ (is_sequence : IsSequence (2 * n + m) design.arcs order sequence) (rows : AreRows (2 * n + m) new.rows)
      (each : (bit : ℕ) → bit < 2 * n + m → row_of new.rows.of_bits.items (reversed_bit n places.of_bits.items bit) ≡ row_of sequence.rows.of_bits.items bit)
      (count : length new.along.items ≡ length sequence.along.items)
      (flips : (i : ℕ) → i < length sequence.along.items → arc_at new.along.items i ≡ flipped (arc_at sequence.along.items (length sequence.along.items - 1 - i)))
      (leaving : AreLeaving new.along.items (2 * n + m) new.leaving) where
    at_place : (i : ℕ) → i < length (reverse order) → arc_at new.along.items i ≡ moved new.rows.of_bits.items (arc_at (reversed_arcs n places.of_bits.items design.arcs) (get_or (reverse order) i 0))
    at_place i low =
        let same = length-reverse order in
        let all = is_sequence.along.count in
        let other : ℕ = length order - 1 - i in
        let arc : TimingArc = arc_at design.arcs (get_or order other 0) in
        let is_arc : IsArc n m arc = arc_inside design.arcs order is_order n m kept.each_arc other (omega arith) in
        let place : length sequence.along.items - 1 - i ≡ other = omega arith in
        let was : arc_at sequence.along.items (length sequence.along.items - 1 - i) ≡ moved sequence.rows.of_bits.items arc = ap (arc_at sequence.along.items) place ∙ is_sequence.along.each other (omega arith) in
        let is = reversed_at n m places.of_bits.items places.bits.items are_places.of_bits are_places.bits design.arcs kept.each_arc order is_order i low in
        let from = each arc.to is_arc.to in
        let to = each arc.from is_arc.from in
        flips i (omega arith) ∙ ap flipped was ∙ (rw (from, to) refl) ∙ ap (moved new.rows.of_bits.items) (sym is)

    pub IsSequence-reversed : IsSequence (2 * n + m) (reversed_arcs n places.of_bits.items design.arcs) (reverse order) new
    IsSequence-reversed = record {
      rows = rows;
      along = record { count = count ∙ is_sequence.along.count ∙ sym (length-reverse order); each = at_place };
      leaving = leaving;
    }
