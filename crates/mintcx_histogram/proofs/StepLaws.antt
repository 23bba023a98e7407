-- The bars of a step.
use Rattle.std.proofs.Common.{◌≡◌, ℕ, zero, suc, ◌<◌, ◌≤◌, ◌+◌, ◌*◌, ◌^◌, ℤ, List, [], ◌∷◌, length, max, arith, subst, sym, ⊎_elim}
use Rattle.std.specs.Int.{div_ceil}
use Rattle.std.specs.List.{fold, range_with_len}
use Rattle.std.proofs.Math.Nat.{mul-le-mul_right}
use Rattle.std.proofs.lemmas.Bool.{cases_eq, cases_lt}
use Rattle.std.proofs.lemmas.Nat.{mul-le}
use Rattle.std.proofs.lemmas.Grind.{common_steps, div_ceil_times}
use Rattle.mintc_text.specs.declared.limits.TheConstants.{MOST_PAIRS}
use Rattle.mintcx_slacks.specs.Histograms.{bar_of, bars_of, count_of, fullest_of, most_of}
use Rattle.mintcx_histogram.specs.Bars.{IsBar}
use Rattle.mintcx_histogram.specs.Pictures.{bar_at}

-- a slack of at most twelve steps is of one of the first twelve bars
pub twelve_bars : (slack step : ℕ) → 1 ≤ step → slack ≤ 12 * step → div_ceil slack step ≤ 12
twelve_bars slack step some h = ⊎_elim
    (λ (many : 12 < div_ceil slack step). absurd (omega (arith, (div_ceil_times slack step some).1, mul-le-mul_right step many)))
    (λ few. few)
    (cases_lt 12 (div_ceil slack step))

-- the greatest of one number and others: it is at least the first, at least each, and at most what all are
from_first : (f : ℕ → ℕ) (a : ℕ) (bs : List ℕ) → a ≤ fold (λ most b. max most (f b)) a bs
from_first f a [] = omega arith
from_first f a (b ∷ bs) = omega (arith, from_first f (max a (f b)) bs)

from_each : (f : ℕ → ℕ) (a first n b : ℕ) → first ≤ b → b < first + n → f b ≤ fold (λ most k. max most (f k)) a (range_with_len first n)
from_each f a first zero b low high = absurd (omega (arith, low, high))
from_each f a first (suc n) b low high = ⊎_elim
    (λ (e : b ≡ first). subst (λ k. f k ≤ fold (λ most j. max most (f j)) (max a (f first)) (range_with_len (first + 1) n)) (sym e)
    (omega (arith, from_first f (max a (f first)) (range_with_len (first + 1) n))))
    (λ (e : b ≡ first → ⊥). from_each f (max a (f first)) (first + 1) n b (omega (arith, e, low)) (omega (arith, high)))
    (cases_eq b first)

to_most : (f : ℕ → ℕ) (a m : ℕ) (bs : List ℕ) → a ≤ m → ((b : ℕ) → f b ≤ m) → fold (λ most b. max most (f b)) a bs ≤ m
to_most f a m [] some each = some
to_most f a m (b ∷ bs) some each = to_most f (max a (f b)) m bs (omega (arith, some, each b)) each

-- no more slacks are of a bar than there are
few_of : (step : ℕ) (extra : List ℤ) (b : ℕ) → count_of step extra b ≤ length extra
few_of step [] b = omega arith
few_of step (u ∷ extra) b = grind (arith, common_steps, few_of step extra b)

-- so each bar of a picture is in its ranges
pub bar_is : (step : ℕ) (extra : List ℤ) (number last : ℕ) → last ≡ div_ceil (most_of extra) step → number ≤ last → last ≤ 12 → step ≤ 10 ^ 18 → length extra ≤ MOST_PAIRS →
    IsBar (bar_at step extra number)
bar_is step extra number last is inside few size pairs = record {
  number = omega (arith, inside, few);
  end = mul-le number step 12 (10 ^ 18) (omega (arith, inside, few)) size;
  few = from_each (count_of step extra) 1 0 (div_ceil (most_of extra) step + 1) number (omega arith) (omega (arith, is, inside));
  some = from_first (count_of step extra) 1 (bars_of step extra);
  most = to_most (count_of step extra) 1 MOST_PAIRS (bars_of step extra) (omega arith) (λ b. omega (arith, few_of step extra b, pairs));
}
