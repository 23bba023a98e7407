-- Flags of elements, as the pairs are passed one by one.
use Rattle.std.proofs.Common.{◌≡◌, ℕ, ◌<◌, ◌+◌, ◌==◌, ◌||◌, Bool, true, false, List, length, get_or, set, take, replicate, arith, ap, ◌∙◌, sym, inl, inr, get_or-set_other}
use Rattle.std.proofs.Math.Bool.{or-true, or-false}
use Rattle.std.proofs.Math.ListN.{length-set}
use Rattle.std.proofs.lemmas.Bool.{cases_eq}
use Rattle.std.proofs.lemmas.Bool.Decides.{nat_tests}
use Rattle.std.proofs.lemmas.Grind.{get_or-set_at}
use Rattle.std.proofs.lemmas.List.{get_or-replicate, length-replicate}
use Rattle.std.proofs.lemmas.List.Folds.{list_any_more}
use Rattle.std.specs.List.{list_any}
use Rattle.mintc_timing.specs.declared.parts.Pair.{Pair}
use Rattle.mintc_timing.specs.Design.{no_pair}
use Rattle.mintcx_reports.specs.Borrowers.{AreFlags}

same_test : (a l : ℕ) → l ≡ a → (a == l) ≡ true
same_test a l h = grind (arith, nat_tests)

other_test : (a l : ℕ) → (l ≡ a → ⊥) → (a == l) ≡ false
other_test a l h = grind (arith, nat_tests)

-- one flag more that is up
raised : (flags : List Bool) (a l : ℕ) → a < length flags → get_or (set flags a true) l false ≡ (get_or flags l false || (a == l))
raised flags a l below =
    elim (cases_eq l a) [
      | inl h ↦
          get_or-set_at flags a l true false h below
          ∙ sym (or-true (get_or flags l false)) ∙ ap (λ v. get_or flags l false || v) (sym (same_test a l h))
      | inr h ↦
          get_or-set_other flags a l true false h
          ∙ sym (or-false (get_or flags l false)) ∙ ap (λ v. get_or flags l false || v) (sym (other_test a l h))
    ]

module _ (end : Pair → ℕ) (pairs : List Pair) where
  -- whether some pair so far has an element at this end
  abbrev pub met : ℕ → ℕ → Bool
  met i l = list_any (λ (pair : Pair). end pair == l) (take i pairs)

  pub no_flags : (n : ℕ) → AreFlags (met 0) n (replicate n false)
  no_flags n = record { count = length-replicate n false; each = λ l below. get_or-replicate n l false false below }

  pub flag_more : (i n : ℕ) (flags : List Bool) (pair : Pair) → i < length pairs → pair ≡ get_or pairs i no_pair → end pair < n →
      AreFlags (met i) n flags → AreFlags (met (i + 1)) n (set flags (end pair) true)
  flag_more i n flags pair inside is below h = record {
    count = length-set flags (end pair) true ∙ h.count;
    each = λ l less.
        raised flags (end pair) l (omega (arith, h.count)) ∙ ap (λ v. v || (end pair == l)) (h.each l less)
        ∙ ap (λ (p : Pair). met i l || (end p == l)) is ∙ sym (list_any_more (λ (p : Pair). end p == l) pairs i no_pair inside);
  }
