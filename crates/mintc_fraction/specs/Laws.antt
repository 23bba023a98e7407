-- The laws of the order, of sums and of rounding to a grid.
use Rattle.std.specs.Prelude.{◌≡◌, ◌⊎◌, ◌↔◌, ℤ, ◌≤ℤ◌}
use Rattle.mintc_fraction.specs.Ratio.{Ratio, over, IsFraction, IsAtMost, IsBelow, IsEqual, sum_of, IsFloor, IsCeiling}
use Rattle.mintc_fraction.specs.Ratio.{IsLowest}

-- the order of the values is total and agrees with their equality
pub record IsTotalOrder : Type 0 where
  pub total : (a b : Ratio) → IsAtMost a b ⊎ IsAtMost b a
  pub transitive : (a b c : Ratio) → IsFraction a → IsFraction b → IsFraction c → IsAtMost a b → IsAtMost b c →
      IsAtMost a c
  pub equal : (a b : Ratio) → IsEqual a b ↔ (IsAtMost a b × IsAtMost b a)
  pub strict : (a b : Ratio) → IsBelow a b ↔ (IsAtMost b a → ⊥)

-- c is the sum of a and b
abbrev pub IsSum : Ratio → Ratio → Ratio → Type 0
IsSum a b c = IsEqual c (sum_of a b)

-- two sums of the same values are equal, in either order and however they are grouped
pub record AreSums : Type 0 where
  pub commutative : (a b c d : Ratio) → IsFraction a → IsFraction b → IsSum a b c → IsSum b a d → IsEqual c d
  pub associative : (a b c ab bc left right : Ratio) → IsFraction a → IsFraction b → IsFraction c → IsFraction ab →
      IsFraction bc →
      IsSum a b ab → IsSum ab c left → IsSum b c bc → IsSum a bc right → IsEqual left right

-- some whole number over the grid is the value
abbrev pub IsOnGrid : Ratio → ℤ → Type 0
IsOnGrid a grid = (g : ℤ) × IsEqual (over g grid) a

-- rounding down gives at most what rounding up gives, and the same exactly on the grid
pub record IsRounding : Type 0 where
  pub ordered : (a : Ratio) (grid low high : ℤ) → IsFraction a → IsFloor a grid low → IsCeiling a grid high →
      low ≤ℤ high
  pub exact : (a : Ratio) (grid low high : ℤ) → IsFraction a → IsFloor a grid low → IsCeiling a grid high →
      (low ≡ high) ↔ IsOnGrid a grid

-- fractions in lowest terms with the same value are the same
abbrev pub AreLowestUnique : Type 0
AreLowestUnique = (a b : Ratio) → IsFraction a → IsFraction b → IsLowest a → IsLowest b → IsEqual a b → a ≡ b
