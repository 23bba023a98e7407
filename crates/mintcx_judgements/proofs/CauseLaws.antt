-- Pairs into elements, one pair after another.
use Rattle.std.proofs.Common.{◌≡◌, ℕ, zero, suc, ◌<◌, ◌≤◌, ◌+◌, ◌-◌, ◌==◌, ℤ, pos, ◌*ℤ◌, Bool, true, false, List, [], ◌∷◌, ◌++◌, length, get_or, get_or-set_other, get_or-set_same, length-set, Option, Some, None, if◌then◌else◌, arith, refl, ap, ◌∙◌, sym, subst, ⊎_elim}
use Rattle.std.proofs.lemmas.Bool.{cases_eq}
use Rattle.std.proofs.lemmas.Bool.Decides.{nat_tests}
use Rattle.std.proofs.lemmas.Grind.{fold-append}
use Rattle.std.proofs.lemmas.List.Elements.{All-nil, All-cons}
use Rattle.std.specs.Prelude.{slice_set, All, IfSome}
use Rattle.std.specs.List.{fold, range_with_len}
use Rattle.mintc_timing.specs.Design.{Timing, element_count, pair_at}
use Rattle.mintc_timing.specs.Clocking.{crosses_of}
use Rattle.mintc_timing.proofs.SharedShifts.{crosses-below, crosses-not_below, none_times, once}
use Rattle.mintcx_judgements.specs.Sources.{AreGreatest, greatest_into, greater_by}

-- what holds of the value that an option has
pub inside_some : {X : Type 0} (o : Option X) (P : X → Type 0) → ((x : X) → o ≡ Some x → P x) → IfSome o P
inside_some None P each = tt
inside_some (Some x) P each = each x refl

pub some_inside : {X : Type 0} (o : Option X) (P : X → Type 0) → IfSome o P → (x : X) → o ≡ Some x → P x
some_inside o P h x e = subst (λ v. IfSome v P) e h

-- what holds of each number of a range
pub All-range : (Q : ℕ → Type 0) (a n : ℕ) → ((k : ℕ) → a ≤ k → k < a + n → Q k) → All Q (range_with_len a n)
All-range Q a zero each = All-nil Q
All-range Q a (suc n) each =
    All-cons Q a (range_with_len (a + 1) n) (each a (omega arith) (omega arith)) (All-range Q (a + 1) n (λ k low high. each k (omega arith) (omega arith)))

-- a number more at the end of a range
range_from : (a k : ℕ) → range_with_len a (suc k) ≡ range_with_len a k ++ (a + k) ∷ []
range_from a zero = ap (λ n. n ∷ []) (omega arith)
range_from a (suc k) = ap (λ xs. a ∷ xs) (range_from (a + 1) k ∙ ap (λ n. range_with_len (a + 1) k ++ n ∷ []) (omega arith))

pub range_more : (k : ℕ) → range_with_len 0 (k + 1) ≡ range_with_len 0 k ++ k ∷ []
range_more k =
    let more : k + 1 ≡ suc k = omega arith in
    let none : 0 + k ≡ k = omega arith in
    ap (λ n. range_with_len 0 n) more ∙ range_from 0 k ∙ ap (λ n. range_with_len 0 k ++ n ∷ []) none

-- a number less at the beginning
pub range_less : (m n : ℕ) → n < m → range_with_len n (m - n) ≡ n ∷ range_with_len (n + 1) (m - (n + 1))
range_less m n h =
    let k : m - n ≡ suc (m - (n + 1)) = omega arith in
    ap (range_with_len n) k

module _ (t : Timing) (time : ℕ → ℤ) where
  abbrev step : ℕ → Option ℕ → ℕ → Option ℕ
  step l best n = if (pair_at t n).to == l then greater_by time best n else best

  into_more : (l k : ℕ) → greatest_into t time l (range_with_len 0 (k + 1)) ≡ step l (greatest_into t time l (range_with_len 0 k)) k
  into_more l k = ap (greatest_into t time l) (range_more k) ∙ fold-append (step l) None (range_with_len 0 k) (k ∷ [])

  step_here : (l : ℕ) (best : Option ℕ) (n : ℕ) (b : Bool) → ((pair_at t n).to == l) ≡ b → (pair_at t n).to ≡ l → step l best n ≡ greater_by time best n
  step_here l best n true e h = ap (λ (c : Bool). if c then greater_by time best n else best) e
  step_here l best n false e h = absurd (grind (arith, nat_tests))

  step_there : (l : ℕ) (best : Option ℕ) (n : ℕ) (b : Bool) → ((pair_at t n).to == l) ≡ b → ((pair_at t n).to ≡ l → ⊥) → step l best n ≡ best
  step_there l best n true e h = absurd (h (grind (arith, nat_tests)))
  step_there l best n false e h = ap (λ (c : Bool). if c then greater_by time best n else best) e

  pub greatest_more : (k : ℕ) (found : List (Option ℕ)) (to : ℕ) (next : Option ℕ) → AreGreatest t time k found → to ≡ (pair_at t k).to → to < element_count t.flat →
      next ≡ greater_by time (get_or found to None) k → ((n : ℕ) → next ≡ Some n → n < length t.pairs) → AreGreatest t time (k + 1) (slice_set found to next)
  greatest_more k found to next are to_is below next_is inside = record {
    count = length-set found to next ∙ are.count;
    each = λ l h. ⊎_elim
        (λ (e : l ≡ to).
        ap (λ n. get_or (slice_set found to next) n None) e ∙ get_or-set_same found to next None (omega (arith, are.count)) ∙ next_is
        ∙ ap (λ (o : Option ℕ). greater_by time o k) (ap (λ n. get_or found n None) (sym e) ∙ are.each l h)
        ∙ sym (step_here l _ k _ refl (sym to_is ∙ sym e)) ∙ sym (into_more l k))
        (λ (e : l ≡ to → ⊥).
        get_or-set_other found to l next None e ∙ are.each l h
        ∙ sym (step_there l _ k _ refl (λ f. e (sym f ∙ sym to_is))) ∙ sym (into_more l k))
        (cases_eq l to);
    inside = λ l n h is. ⊎_elim
        (λ (e : l ≡ to). inside n (sym (get_or-set_same found to next None (omega (arith, are.count))) ∙ ap (λ m. get_or (slice_set found to next) m None) (sym e) ∙ is))
        (λ (e : l ≡ to → ⊥). are.inside l n h (sym (get_or-set_other found to l next None e) ∙ is))
        (cases_eq l to);
  }

-- the cycles from phase to phase
pub turning_below : (i j : ℕ) (c : ℤ) → i < j → pos (crosses_of i j) *ℤ c ≡ pos 0
turning_below i j c h = ap (λ n. pos n *ℤ c) (crosses-below i j h) ∙ none_times c

pub turning_not_below : (i j : ℕ) (c : ℤ) → j ≤ i → pos (crosses_of i j) *ℤ c ≡ c
turning_not_below i j c h = ap (λ n. pos n *ℤ c) (crosses-not_below i j h) ∙ once c
