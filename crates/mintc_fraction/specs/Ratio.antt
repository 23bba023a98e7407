-- Fractions of whole numbers without bound, compared by cross products. Nothing here has a unit.
use Rattle.std.specs.Prelude.{◌≡◌, ◌^◌, ◌≤◌, ℕ, ℤ, pos, ◌+ℤ◌, ◌*ℤ◌, ◌≤ℤ◌, ◌<ℤ◌, unsigned_abs, List, ◌++◌, codes}
use Rattle.std.specs.Fmt.{signed_decimal}
use Rattle.std.specs.Ordering.{MatchOrdering}
use Rattle.std.specs.declared.cmp.Ordering.{Ordering}

-- num / den
pub record Ratio : Type 0 where
  pub num : ℤ
  pub den : ℤ

-- num / den, whatever den is
abbrev pub over : ℤ → ℤ → Ratio
over num den = record { num = num; den = den }

-- the denominator is at least 1
abbrev pub IsFraction : Ratio → Type 0
IsFraction a = pos 1 ≤ℤ a.den

-- the value of a is at most that of b
abbrev pub IsAtMost : Ratio → Ratio → Type 0
IsAtMost a b = (a.num *ℤ b.den) ≤ℤ (b.num *ℤ a.den)

-- the value of a is below that of b
abbrev pub IsBelow : Ratio → Ratio → Type 0
IsBelow a b = (a.num *ℤ b.den) <ℤ (b.num *ℤ a.den)

-- the values are equal
abbrev pub IsEqual : Ratio → Ratio → Type 0
IsEqual a b = a.num *ℤ b.den ≡ b.num *ℤ a.den

-- how the value of a stands to that of b
abbrev pub IsOrderOf : Ratio → Ratio → Ordering → Type 0
IsOrderOf a b order = MatchOrdering order (IsBelow a b) (IsEqual a b) (IsBelow b a)

-- the sum of two values, not in lowest terms
abbrev pub sum_of : Ratio → Ratio → Ratio
sum_of a b = over (a.num *ℤ b.den +ℤ b.num *ℤ a.den) (a.den *ℤ b.den)

-- the product of a value with a whole number, not in lowest terms
abbrev pub product_of : Ratio → ℤ → Ratio
product_of a by = over (a.num *ℤ by) a.den

-- the greatest g with g / grid at most the value
pub record IsFloor (a : Ratio) (grid g : ℤ) : Type 0 where
  pub low : IsAtMost (over g grid) a
  pub greatest : (other : ℤ) → IsAtMost (over other grid) a → other ≤ℤ g

-- the least g with g / grid at least the value
pub record IsCeiling (a : Ratio) (grid g : ℤ) : Type 0 where
  pub high : IsAtMost a (over g grid)
  pub least : (other : ℤ) → IsAtMost a (over other grid) → g ≤ℤ other

-- some whole number times k is n
abbrev pub Divides : ℤ → ℤ → Type 0
Divides k n = (m : ℤ) × (m *ℤ k ≡ n)

-- no whole number above 1 divides both
abbrev pub IsLowest : Ratio → Type 0
IsLowest a = (k : ℤ) → pos 1 <ℤ k → Divides k a.num → Divides k a.den → ⊥

-- the numerator is at most n in absolute value, and the denominator at most d
pub record IsWithin (n d : ℕ) (a : Ratio) : Type 0 where
  pub num : unsigned_abs a.num ≤ n
  pub den : a.den ≤ℤ pos d

-- small enough for each operation
abbrev pub IsModest : Ratio → Type 0
IsModest a = IsWithin (10 ^ 24) (10 ^ 12) a

-- num/den in decimal
abbrev pub text_of : Ratio → List ℕ
text_of a = signed_decimal a.num ++ codes "/" ++ signed_decimal a.den
