-- The first number that passes a test, one number after another.
use Rattle.std.proofs.Common.{◌≡◌, ◌∷◌, ℕ, suc, ◌<◌, ◌≤◌, ◌+◌, ◌-◌, Bool, true, false, Option, Some, None, if◌then◌else◌, arith, ap, ◌∙◌}
use Rattle.std.specs.List.{range_with_len}
use Rattle.mintcx_verdicts.specs.Arrivals.{first_where}

-- a number less at the beginning
range_less : (m n : ℕ) → n < m → range_with_len n (m - n) ≡ n ∷ range_with_len (n + 1) (m - (n + 1))
range_less m n h =
    let k : m - n ≡ suc (m - (n + 1)) = omega arith in
    ap (range_with_len n) k

module _ (test : ℕ → Bool) (m n : ℕ) where
  abbrev from_here : Option ℕ
  from_here = first_where test (range_with_len n (m - n))

  abbrev later : Option ℕ
  later = first_where test (range_with_len (n + 1) (m - (n + 1)))

  -- it is not this number
  pub first_none : n < m → test n ≡ false → from_here ≡ later
  first_none h e = ap (first_where test) (range_less m n h) ∙ ap (λ (b : Bool). if b then Some n else later) e

  -- it is this number
  pub first_some : n < m → test n ≡ true → from_here ≡ Some n
  first_some h e = ap (first_where test) (range_less m n h) ∙ ap (λ (b : Bool). if b then Some n else later) e

  -- no number is left
  pub first_end : m ≤ n → from_here ≡ None
  first_end h =
      let none : m - n ≡ 0 = omega arith in
      ap (λ k. first_where test (range_with_len n k)) none
