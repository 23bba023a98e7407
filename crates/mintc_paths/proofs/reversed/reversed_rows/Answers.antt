use Rattle.std.proofs.Common.{◌≡◌, ◌∙◌, ◌<◌, ℕ, List, length, arith, ap}
use Rattle.std.specs.Vec.{with_items}
use Rattle.std.proofs.lemmas.List.{with_items_is}
use Rattle.mintc_paths_sums.specs.Placed.{row_of}
use Rattle.mintc_paths.specs.declared.rows.Rows.{Rows}
use Rattle.mintc_paths.specs.Reversed.{reversed_bit, bit_before}
use Rattle.mintc_paths.proofs.ReversedSequence.{AreRows-reversed, rows_reversed}
use Rattle.mintc_paths.proofs.reversed.reversed_rows.Goals as goal

pub returns : goal.returns
returns c =
    let n : ℕ = c.args.elements in
    let old = c.args.rows in
    let places = c.args.places.now in
    let new : Rows = record { of_bits = c.in_ok-of_bits.of_bits; bits = with_items old.bits c.reverse_bits.new.bits } in
    let was = c.deref_mut.ensures.value in
    let same_was = ap (λ (xs : List ℕ). length xs) was in
    let source = c.deref.ensures.value in
    let same_source = ap (λ (xs : List ℕ). length xs) source in
    let is : new.bits.items ≡ c.reverse_bits.new.bits = with_items_is old.bits c.reverse_bits.new.bits (omega (arith, old.bits.ok.0)) in
    let each = λ (bit : ℕ) (low : bit < length old.of_bits.items). c.in_ok-of_bits.ensures.each bit (omega arith) ∙ ap (λ xs. row_of xs (bit_before n places.bits.items bit)) source in
    let each_bits = λ (row : ℕ) (low : row < length old.of_bits.items).
    ap (λ xs. row_of xs row) is ∙ c.reverse_bits.ensures row (omega (arith, c.requires.rows.bits.count)) ∙ ap (λ xs. reversed_bit n places.of_bits.items (row_of xs row)) was in
    let count = ap (λ (xs : List ℕ). length xs) is ∙ c.reverse_bits.auto.bits ∙ same_was in
    record {
      rows = AreRows-reversed n (length old.of_bits.items) c.requires.all places c.requires.places old new c.requires.rows (c.in_ok-of_bits.ensures.count ∙ same_source) each count each_bits;
      each = rows_reversed n (length old.of_bits.items) c.requires.all places c.requires.places old new c.requires.rows (c.in_ok-of_bits.ensures.count ∙ same_source) each count each_bits;
    }
