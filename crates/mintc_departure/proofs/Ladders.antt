-- numbers that leave no wide gap stay below a bound
use Rattle.std.proofs.Common.{ℕ, zero, suc, ◌+◌, ◌*◌, ◌<◌, ◌≤◌, ℤ, pos, ◌≤ℤ◌, ◌<ℤ◌, cond, arith, ◌⊎◌, inl, inr, ⊎_elim, below_more}
use Rattle.std.proofs.lemmas.Int.{ints, by_lt_z}
use lib.Signed.{lt_z}

-- 1 for a number that is at most a bound, and 0 for any other
abbrev one_upto : ℤ → ℤ → ℕ
one_upto top y = cond (lt_z top y) 0 1

-- how many of the first n numbers are at most a bound
abbrev count_upto : (ℕ → ℤ) → ℤ → ℕ → ℕ
count_upto x top zero = 0
count_upto x top (suc n) = count_upto x top n + one_upto top (x n)

-- none of the first n numbers is above the one bound and at most the other
abbrev pub IsGap : (ℕ → ℤ) → ℤ → ℤ → ℕ → Type 0
IsGap x low high n = (l : ℕ) → l < n → (x l ≤ℤ low) ⊎ (high <ℤ x l)

module _ (x : ℕ → ℤ) where
  count_most : (top : ℤ) (n : ℕ) → count_upto x top n ≤ n
  count_most top zero = omega arith
  count_most top (suc n) =
      let rest = count_most top n in
      grind (arith, ints)

  upto_suc : (top : ℤ) (n : ℕ) → ((l : ℕ) → l < n → x l ≤ℤ top) → x n ≤ℤ top → (l : ℕ) → l < suc n → x l ≤ℤ top
  upto_suc top n before here l lt = below_more (λ k. x k ≤ℤ top) n before here l (omega arith)

  all_low : (top : ℤ) (n : ℕ) → n ≤ count_upto x top n → (l : ℕ) → l < n → x l ≤ℤ top
  all_low top zero h l lt = absurd (omega arith)
  all_low top (suc n) h l lt =
      let most = count_most top n in
      by_lt_z top (x n) (λ high. absurd (grind (arith, ints))) (λ low. upto_suc top n (all_low top n (grind (arith, ints))) low l lt)

  -- One more number is at most the higher bound, or there is a gap between the two.
  count_or_gap : (low high : ℤ) → low ≤ℤ high → (n : ℕ) →
      (suc (count_upto x low n) ≤ count_upto x high n) ⊎ (IsGap x low high n × (count_upto x low n ≤ count_upto x high n))
  count_or_gap low high h zero = inr ((λ l lt. absurd (omega arith)), omega arith)
  count_or_gap low high h (suc n) =
      ⊎_elim
      (λ more. inl (grind (arith, ints)))
      (λ gap.
      by_lt_z low (x n)
      (λ above. by_lt_z high (x n) (λ over. inr (gap_suc gap.0 (inr over), grind (arith, ints, gap.1))) (λ under. inl (grind (arith, ints, gap.1))))
      (λ below. inr (gap_suc gap.0 (inl below), grind (arith, ints, gap.1))))
      (count_or_gap low high h n)
    where
      gap_suc : IsGap x low high n → (x n ≤ℤ low) ⊎ (high <ℤ x n) → IsGap x low high (suc n)
      gap_suc before here l lt = below_more (λ k. (x k ≤ℤ low) ⊎ (high <ℤ x k)) n before here l (omega arith)

  -- Where numbers stay below each gap of this width above the first rung, none of n numbers is above the nth rung.
  module _ (first width n : ℕ) (stay : (low : ℕ) → first ≤ low → IsGap x (pos low) (pos (low + width)) n → (l : ℕ) → l < n → x l ≤ℤ pos low) where
    climb : (k : ℕ) → (k ≤ count_upto x (pos (first + k * width)) n) ⊎ ((l : ℕ) → l < n → x l ≤ℤ pos (first + k * width))
    climb zero = inl (omega arith)
    climb (suc k) =
        let next : pos (first + k * width) ≤ℤ pos (first + suc k * width) = omega (arith, ints) in
        ⊎_elim
        (λ many.
        ⊎_elim
        (λ more. inl (omega arith))
        (λ gap. inr (λ l lt. let s = stay (first + k * width) (omega arith) (rung gap.0) l lt in omega (arith, ints)))
        (count_or_gap (pos (first + k * width)) (pos (first + suc k * width)) next n))
        (λ all. inr (λ l lt. let a = all l lt in omega (arith, ints)))
        (climb k)
      where
        rung : IsGap x (pos (first + k * width)) (pos (first + suc k * width)) n → IsGap x (pos (first + k * width)) (pos (first + k * width + width)) n
        rung gap l lt = ⊎_elim (λ a. inl a) (λ b. inr (omega (arith, ints))) (gap l lt)

    pub all_below : (l : ℕ) → l < n → x l ≤ℤ pos (first + n * width)
    all_below = ⊎_elim (λ many. all_low (pos (first + n * width)) n many) (λ all. all) (climb n)
