-- The greatest least width is 0 at least, so the search for it begins with 0.
use Rattle.std.proofs.Common.{◌≡◌, ℕ, pos, ◌≤ℤ◌, List, [], ◌∷◌, arith}
use Rattle.std.specs.Int.{int_max}
use Rattle.std.proofs.lemmas.Int.{ints, clamps}
use Rattle.mintc_timing.specs.Design.{Timing}
use Rattle.mintc_corners.specs.Lifted.{widest}

pub widest_low : (ts : List Timing) (p : ℕ) → pos 0 ≤ℤ widest ts p
widest_low [] p = omega (arith, ints)
widest_low (t ∷ ts) p = let rest = widest_low ts p in omega (arith, ints, clamps)

pub widest_begun : (ts : List Timing) (p : ℕ) → int_max (pos 0) (widest ts p) ≡ widest ts p
widest_begun ts p = let low = widest_low ts p in omega (arith, ints, clamps)
