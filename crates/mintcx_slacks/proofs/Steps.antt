-- Steps and bars.
use Rattle.std.proofs.Common.{◌≡◌, ◌≢◌, ℕ, zero, suc, ◌<◌, ◌≤◌, ◌+◌, ◌*◌, ◌/◌, ◌%◌, ◌^◌, ◌==◌, ℤ, pos, Bool, List, [], ◌∷◌, ◌++◌, length, take, get_or, min, max, arith, refl, ap, ◌∙◌, sym, subst, ⊎_elim}
use Rattle.std.specs.Prelude.{codes, cond}
use Rattle.std.specs.Int.{div_ceil}
use Rattle.std.specs.List.{fold, range_with_len}
use Rattle.std.proofs.Math.Nat.{pow-le-pow_right, one-le-pow, mul-le-mul_right}
use Rattle.std.proofs.lemmas.Bool.{cases_eq, cases_lt}
use Rattle.std.proofs.lemmas.Nat.{mul-le}
use Rattle.std.proofs.lemmas.Grind.{div_ceil_times, fold-append}
use Rattle.std.proofs.lemmas.List.Filters.{length-filter_more}
use Rattle.mintcx_amounts.specs.declared.unit.Unit.{Unit}
use Rattle.mintcx_slacks.specs.Histograms.{bar_name, bar_of, count_of, end_text, step_at}

-- the zeros of a step
pub few_zeros : (n : ℕ) → n < 54 → 10 ^ (n / 3) ≤ 10 ^ 17
few_zeros n h =
    let some : 0 < 10 = omega arith in
    let few : n / 3 ≤ 17 = omega (arith, h) in
    pow-le-pow_right {n = 10} some {i = n / 3} {j = 17} few

pub some_zeros : (n : ℕ) → 1 ≤ 10 ^ n
some_zeros n =
    let some : 0 < 10 = omega arith in
    one-le-pow n 10 some

-- its femtoseconds
pub step_few : (l n : ℕ) → l ≤ 5 → n < 54 → l * 10 ^ (n / 3) ≤ 10 ^ 18
step_few l n few h = omega (arith, mul-le l (10 ^ (n / 3)) 5 (10 ^ 17) few (few_zeros n h))

pub step_some : (l n : ℕ) → 1 ≤ l → 1 ≤ l * 10 ^ (n / 3)
step_some l n some = omega (arith, mul-le 1 1 l (10 ^ (n / 3)) some (some_zeros (n / 3)))

-- a slack of at most twelve steps is of one of the first twelve bars
pub twelve_bars : (slack step : ℕ) → 1 ≤ step → slack ≤ 12 * step → div_ceil slack step ≤ 12
twelve_bars slack step some h = ⊎_elim
    (λ (many : 12 < div_ceil slack step). absurd (omega (arith, (div_ceil_times slack step some).1, mul-le-mul_right step many)))
    (λ few. few)
    (cases_lt 12 (div_ceil slack step))

-- what holds below a number and at it
pub none_more : (greatest n : ℕ) → ((k : ℕ) → k < n → 12 * step_at k < greatest) → 12 * step_at n < greatest → (k : ℕ) → k < n + 1 → 12 * step_at k < greatest
none_more greatest n before here k h = ⊎_elim
    (λ (e : k ≡ n). subst (λ m. 12 * step_at m < greatest) (sym e) here)
    (λ (e : k ≡ n → ⊥). before k (omega (arith, e, h)))
    (cases_eq k n)

-- a bar more
range_from : (a k : ℕ) → range_with_len a (suc k) ≡ range_with_len a k ++ (a + k) ∷ []
range_from a zero = ap (λ n. n ∷ []) (omega arith)
range_from a (suc k) = ap (λ xs. a ∷ xs) (range_from (a + 1) k ∙ ap (λ n. range_with_len (a + 1) k ++ n ∷ []) (omega arith))

range_more : (k : ℕ) → range_with_len 0 (k + 1) ≡ range_with_len 0 k ++ k ∷ []
range_more k =
    let more : k + 1 ≡ suc k = omega arith in
    let none : 0 + k ≡ k = omega arith in
    ap (λ n. range_with_len 0 n) more ∙ range_from 0 k ∙ ap (λ n. range_with_len 0 k ++ n ∷ []) none

pub most_more : (step : ℕ) (extra : List ℤ) (k : ℕ) →
    fold (λ most b. max most (count_of step extra b)) 1 (range_with_len 0 (k + 1))
    ≡ max (fold (λ most b. max most (count_of step extra b)) 1 (range_with_len 0 k)) (count_of step extra k)
most_more step extra k =
    ap (fold (λ most b. max most (count_of step extra b)) 1) (range_more k) ∙ fold-append (λ most b. max most (count_of step extra b)) 1 (range_with_len 0 k) (k ∷ [])

-- a slack more
pub count_more : (step number : ℕ) (extra : List ℤ) (i : ℕ) (d : ℤ) → i < length extra →
    count_of step (take (i + 1) extra) number ≡ count_of step (take i extra) number + cond (bar_of step (get_or extra i d) == number) 1 0
count_more step number extra i d h = length-filter_more (λ u. bar_of step u == number) extra i d h

-- what a bar is called
pub no_bar : (unit : Unit) (step n : ℕ) → n ≡ 0 → bar_name unit step n ≡ codes "none"
no_bar unit step zero h = refl
no_bar unit step (suc n) h = absurd (omega (arith, h))

pub some_bar : (unit : Unit) (step n : ℕ) → n ≢ 0 → bar_name unit step n ≡ end_text unit (n * step)
some_bar unit step zero h = absurd (h refl)
some_bar unit step (suc n) h = refl
