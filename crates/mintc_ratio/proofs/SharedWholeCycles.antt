-- Whole numbers as cycle times.
use Rattle.std.proofs.Common.{◌≡◌, ◌≤◌, ◌*◌, ℕ, zero, suc, ℤ, pos, negsuc, ◌*ℤ◌, ◌<ℤ◌, arith}
use Rattle.std.proofs.lemmas.Int.{ints}
use Rattle.mintc_fraction.specs.Ratio.{over}
use Rattle.mintc_ratio.specs.Searched.{IsCycle}

-- no number above 1 divides 1
one_undivided : (m k : ℤ) → pos 1 <ℤ k → m *ℤ k ≡ pos 1 → ⊥
one_undivided (pos zero) (pos b) h e = omega (arith, ints)
one_undivided (pos (suc a)) (pos b) h e = let more : 1 * b ≤ suc a * b = grind arith in absurd (omega (arith, ints))
one_undivided (negsuc a) (pos zero) h e = absurd (omega (arith, ints))
one_undivided (negsuc a) (pos (suc b)) h e = absurd (omega (arith, ints))
one_undivided m (negsuc b) h e = absurd (omega (arith, ints))

-- a whole number of 32 bits over 1 is a cycle time
pub whole_cycle : (cycle : ℕ) → cycle ≤ 4294967295 → IsCycle (over (pos cycle) (pos 1))
whole_cycle cycle few = record {
  fraction = omega (arith, ints);
  lowest = λ k above num den. one_undivided den.0 k above den.1;
  low = omega (arith, ints);
  num = omega (arith, ints);
  den = omega (arith, ints);
}
