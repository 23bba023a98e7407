-- The first pair between two phases, one pair after another.
use Rattle.std.proofs.Common.{◌≡◌, ℕ, ◌<◌, ◌≤◌, ◌+◌, ◌-◌, Bool, true, false, length, Option, Some, None, if◌then◌else◌, arith, ap, ◌∙◌}
use Rattle.std.specs.List.{range_with_len}
use Rattle.mintc_timing.specs.Clocking.{is_pair_between}
use Rattle.mintc_timing.specs.Design.{Timing, pair_at}
use Rattle.mintcx_judgements.specs.Rules.{first_between}
use Rattle.mintcx_judgements.proofs.CauseLaws.{range_less}

module _ (t : Timing) (i j n : ℕ) where
  abbrev from_here : Option ℕ
  from_here = first_between t i j (range_with_len n (length t.pairs - n))

  abbrev later : Option ℕ
  later = first_between t i j (range_with_len (n + 1) (length t.pairs - (n + 1)))

  -- it is not this pair
  pub between_none : n < length t.pairs → is_pair_between t.flat i j (pair_at t n) ≡ false → from_here ≡ later
  between_none h e = ap (first_between t i j) (range_less (length t.pairs) n h) ∙ ap (λ (b : Bool). if b then Some n else later) e

  -- it is this pair
  pub between_some : n < length t.pairs → is_pair_between t.flat i j (pair_at t n) ≡ true → from_here ≡ Some n
  between_some h e = ap (first_between t i j) (range_less (length t.pairs) n h) ∙ ap (λ (b : Bool). if b then Some n else later) e

  -- no pair is left
  pub between_end : length t.pairs ≤ n → from_here ≡ None
  between_end h =
      let none : length t.pairs - n ≡ 0 = omega arith in
      ap (λ k. first_between t i j (range_with_len n k)) none

pub ruleset between = (between_none, between_some, between_end)
