-- What a listed port keeps.
use Rattle.std.proofs.Common.{◌≡◌, ℕ, ℤ, pos, neg_ℤ, ◌≤ℤ◌, Bool, true, ◌&&◌, List, length, ◌-ℤ◌, arith, w64, to_z, of_z}
use Rattle.std.specs.Prelude.{int_le, nat_le}
use Rattle.std.specs.List.{list_all}
use Rattle.std.proofs.lemmas.Bool.{and_parts, leb-true}
use Rattle.std.proofs.lemmas.Int.{clamps, ints, to_z-of_z}
use Rattle.mintc_text.specs.declared.limits.TheConstants.{MOST_DELAY}
use Rattle.mintc_timing.specs.Limits.{IsGap, IsPhase}
use Rattle.mintc_clock.specs.declared.clock.Listed.{Listed}
use Rattle.mintc_clock.specs.Laws.{KeepsListed}
use Rattle.mintc_clock.specs.Values.{has_delays, has_margins, is_phase}

-- the tests of a name and of a time, as they stand in that of a port
abbrev name_test : List ℕ → Bool
name_test bytes = (nat_le 1 (length bytes) && nat_le (length bytes) 255) && list_all (λ (b : ℕ). nat_le 33 b && nat_le b 126) bytes

abbrev margin_test : ℤ → Bool
margin_test x = int_le (neg_ℤ MOST_DELAY) x && int_le x MOST_DELAY

read_le : (x y : ℤ) → int_le x y ≡ true → x ≤ℤ y
read_le x y h = grind (arith, ints)

-- its phase is one of the clock's
pub listed_phase : (k : ℕ) (l : Listed) → KeepsListed k l → IsPhase k l.phase
listed_phase k l h =
    let halves = and_parts (name_test l.port && is_phase k l.phase) (has_delays l && has_margins l) h.limits in
    let named = and_parts (name_test l.port) (is_phase k l.phase) halves.0 in
    let tests = and_parts (nat_le 1 l.phase) (nat_le l.phase k) named.1 in
    (leb-true 1 l.phase tests.0, leb-true l.phase k tests.1)

-- its hold is in its limits
pub listed_hold : (k : ℕ) (l : Listed) → KeepsListed k l → IsGap l.hold
listed_hold k l h =
    let halves = and_parts (name_test l.port && is_phase k l.phase) (has_delays l && has_margins l) h.limits in
    let timed = and_parts (has_delays l) (has_margins l) halves.1 in
    let margins = and_parts (margin_test l.setup) (margin_test l.hold) timed.1 in
    let tests = and_parts (int_le (neg_ℤ MOST_DELAY) l.hold) (int_le l.hold MOST_DELAY) margins.1 in
    (read_le (neg_ℤ MOST_DELAY) l.hold tests.0, read_le l.hold MOST_DELAY tests.1)

-- a time in these limits with its sign turned, as a machine number
pub turned : (x : ℤ) → IsGap x → to_z w64 (of_z w64 (pos 0 -ℤ to_z w64 (of_z w64 x))) ≡ neg_ℤ x
turned x h =
    let low = h.0 in
    let high = h.1 in
    let read : to_z w64 (of_z w64 x) ≡ x = to_z-of_z w64 x (omega (arith, ints, clamps, h.0, h.1)) in
    let less : pos 0 -ℤ x ≡ neg_ℤ x = omega (arith, ints) in
    rw (read, less) (to_z-of_z w64 (neg_ℤ x) (omega (arith, ints, clamps, h.0, h.1)))

pub turned_range : (x : ℤ) → IsGap x → IsGap (neg_ℤ x)
turned_range x h = (omega (arith, ints, h.0, h.1), omega (arith, ints, h.0, h.1))
