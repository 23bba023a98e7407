-- Vectors of eight numbers of 64 bits.
use Rattle.std.specs.Prelude.{◌≡◌, ◌<◌, ℕ, ℤ, List, length, slice_index_or, FitsSigned, if◌then◌else◌}
use Rattle.std.specs.Int.{w64}
use Rattle.std.specs.Ordering.{int_eq}
use Rattle.mintc_lanes.specs.declared.TheConstants.{ABSENT}

-- number k of a vector, counted from 0
abbrev pub number_at : List ℤ → ℕ → ℤ
number_at vector k = slice_index_or vector k ABSENT

-- eight numbers, each of which fits 64 bits with a sign
pub record IsVector (vector : List ℤ) : Type 0 where
  pub count : length vector ≡ 8
  pub fits : (k : ℕ) → k < 8 → FitsSigned w64 (number_at vector k)

-- each number of the vector is this
abbrev pub HasNumbers : List ℤ → (ℕ → ℤ) → Type 0
HasNumbers vector number = (k : ℕ) → k < 8 → number_at vector k ≡ number k

-- the number of one of two vectors, by whether that of a first one is absent
abbrev pub where_absent_at : List ℤ → List ℤ → List ℤ → ℕ → ℤ
where_absent_at vector absent present k = if int_eq (number_at vector k) ABSENT then number_at absent k
    else number_at present k

-- the number of a row where another one is absent, that of the sum where the row is, and else the chosen one
abbrev pub joined_at : List ℤ → List ℤ → List ℤ → List ℤ → ℕ → ℤ
joined_at row other sum chosen k =
    if int_eq (number_at other k) ABSENT then number_at row k
    else (if int_eq (number_at row k) ABSENT then number_at sum k else number_at chosen k)
