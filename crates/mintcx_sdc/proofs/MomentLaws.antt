-- Moments of the cycle.
use Rattle.std.proofs.Common.{ℤ, pos, negsuc, ◌≤ℤ◌, arith}
use Rattle.std.specs.Int.{int_rem_euclid}
use Rattle.std.proofs.lemmas.Int.{ints}
use Rattle.mintc_timing.specs.Limits.{IsNumerator}

-- a moment is from 0 to below the cycle time
pub moment_range : (time cycle : ℤ) → pos 1 ≤ℤ cycle → IsNumerator cycle → IsNumerator (int_rem_euclid time cycle)
moment_range (pos a) (pos n) some range = let most = range.1 in (omega (arith, ints), omega (arith, ints))
moment_range (negsuc a) (pos n) some range = let most = range.1 in (omega (arith, ints), omega (arith, ints))
moment_range time (negsuc n) some range = absurd (omega (arith, ints))
