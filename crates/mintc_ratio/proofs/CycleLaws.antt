-- A chain's delay over its cycles in lowest terms.
use Rattle.std.proofs.Common.{◌≡◌, ◌≤◌, ◌*◌, ℕ, ℤ, pos, negsuc, ◌*ℤ◌, ◌≤ℤ◌, arith}
use Rattle.std.proofs.lemmas.Int.{ints}
use Rattle.std.specs.Int.RustNames.{unsigned_abs}
use Rattle.mintc_fraction.specs.Ratio.{Ratio, over, IsEqual, IsFraction, IsLowest, IsWithin}
use Rattle.mintc_timing.proofs.SharedProducts.{times-mono_positive, times-cancel_positive}
use Rattle.mintc_ratio.specs.Searched.{IsCycle, IsOfNodes}

-- the absolute value of a number that isn't negative
pub abs_small : (x : ℤ) (n : ℕ) → pos 0 ≤ℤ x → x ≤ℤ pos n → unsigned_abs x ≤ n
abs_small (pos m) n h k = omega (arith, ints)
abs_small (negsuc m) n h k = absurd (omega (arith, ints))

small_abs : (x : ℤ) (n : ℕ) → unsigned_abs x ≤ n → x ≤ℤ pos n
small_abs (pos m) n h = omega (arith, ints)
small_abs (negsuc m) n h = omega (arith, ints)

-- a fraction that equals one that isn't negative isn't negative
not_negative : (a : Ratio) (delay cycles : ℤ) → pos 1 ≤ℤ a.den → pos 1 ≤ℤ cycles → pos 0 ≤ℤ delay → a.num *ℤ cycles ≡ delay *ℤ a.den → pos 0 ≤ℤ a.num
not_negative a delay cycles p q low same =
    let above : (pos 0 *ℤ a.den) ≤ℤ (delay *ℤ a.den) = times-mono_positive (pos 0) delay a.den low p in
    let product : (pos 0 *ℤ cycles) ≤ℤ (a.num *ℤ cycles) = rw same (omega (arith, ints)) in
    times-cancel_positive (pos 0) a.num cycles q product

-- the ratio of a chain that enters none of so many nodes twice
pub IsOfNodes-reduced : (a : Ratio) (delay : ℤ) (cycles nodes : ℕ) → cycles ≤ nodes → pos 0 ≤ℤ delay → delay ≤ℤ pos (nodes * 2000000000) → ((n d : ℕ) → IsWithin n d (over delay (pos cycles)) → IsWithin n d a) → IsOfNodes nodes a
IsOfNodes-reduced a delay cycles nodes few low high bounds =
    let within = bounds (nodes * 2000000000) nodes (record { num = abs_small delay (nodes * 2000000000) low high; den = omega (arith, ints) }) in
    (small_abs a.num (nodes * 2000000000) within.num, within.den)

-- the ratio of a chain, in lowest terms
pub IsCycle-reduced : (a : Ratio) (delay : ℤ) (cycles : ℕ) → 1 ≤ cycles → cycles ≤ 20017 → pos 0 ≤ℤ delay → delay ≤ℤ pos 40034000000000 →
    IsEqual a (over delay (pos cycles)) → IsLowest a → IsFraction a → ((n d : ℕ) → IsWithin n d (over delay (pos cycles)) → IsWithin n d a) → IsCycle a
IsCycle-reduced a delay cycles some few low high same lowest positive bounds =
    let within = bounds 40034000000000 20017 (record { num = abs_small delay 40034000000000 low high; den = omega (arith, ints) }) in
    let num = small_abs a.num 40034000000000 within.num in
    record {
      fraction = positive;
      lowest = lowest;
      low = not_negative a delay (pos cycles) positive (omega (arith, ints)) low same;
      num = omega (arith, ints);
      den = within.den;
    }
