use Rattle.std.proofs.Common.{◌≡◌, ◌≢◌, ◌≤◌, ◌+◌, ◌*◌, ℕ, length}
use Rattle.mintc_checker.specs.Course.{place_at, AreApart, IsOutput}
use Rattle.mintc_checker.proofs.course.enter_outputs.Given as goal

-- the outputs so far, and no other bits, have places
abbrev pub invariant-loop-number : goal.invariant-loop-number
invariant-loop-number l = record {
  places : AreApart l.places;
  count : length l.places.of_bits.items ≡ 2 * length l.flat.elements + length l.flat.inner;
  outputs : (bit : ℕ) → IsOutput l.number bit → place_at l.places.of_bits.items bit ≢ 0;
  others : (bit : ℕ) → place_at l.places.of_bits.items bit ≢ 0 → IsOutput l.number bit;
  given : l.places.given ≤ l.number;
}
