-- Pairs that are counted one by one.
use Rattle.std.proofs.Common.{◌≡◌, ◌<◌, ◌≤◌, ◌+◌, ◌∙◌, ℕ, suc, Bool, true, false, List, [], ◌∷◌, ◌++◌, length, take, get_or, Option, Some, None, unwrap_or, IfSome, ap, sym, refl, subst, arith, append-nil}
use Rattle.std.specs.Prelude.{filter, slice_get}
use Rattle.std.proofs.lemmas.List.{length_push}
use Rattle.std.proofs.lemmas.List.Elements.{filter_more}
use Rattle.mintc_timing.specs.declared.parts.Pair.{Pair}
use Rattle.mintc_timing.specs.Design.{Timing, no_pair}
use Rattle.mintcx_lint.specs.declared.latches.SamePhase.{SamePhase}
use Rattle.mintcx_lint.specs.declared.latches.Tally.{Tally}
use Rattle.mintcx_lint.specs.Latches.{IsInside, IsTally, IsSamePhase, joins_latches, same_pairs}

-- one pair more
pub tally_more : (pairs : List Pair) (pair : Pair) (tally result : Tally) → IsTally pairs tally → result.count ≡ tally.count + 1 → result.first ≡ Some (unwrap_or tally.first pair) →
    IsTally (pairs ++ pair ∷ []) result
tally_more [] pair tally result h count first = record {
  count = omega (arith, count, h.count);
  first = first ∙ ap (λ (o : Option Pair). Some (unwrap_or o pair)) h.first;
}
tally_more (p ∷ ps) pair tally result h count first = record {
  count = omega (arith, count, h.count, length_push (p ∷ ps) pair);
  first = first ∙ ap (λ (o : Option Pair). Some (unwrap_or o pair)) h.first;
}

-- a pair that passes a test, or doesn't
pub passed : (test : Pair → Bool) (pairs : List Pair) (pair : Pair) (tally : Tally) → test pair ≡ true → IsTally (pairs ++ pair ∷ []) tally → IsTally (pairs ++ filter test (pair ∷ [])) tally
passed test pairs pair tally is h = rw is h

pub failed : (test : Pair → Bool) (pairs : List Pair) (pair : Pair) (tally : Tally) → test pair ≡ false → IsTally pairs tally → IsTally (pairs ++ filter test (pair ∷ [])) tally
failed test pairs pair tally is h = rw (is, append-nil) h

-- the pair of the next number
pub tally_next : (t : Timing) (storage k : ℕ) (tally : Tally) → k < length t.pairs →
    IsTally (filter (joins_latches t.flat storage) (take k t.pairs) ++ filter (joins_latches t.flat storage) (get_or t.pairs k no_pair ∷ [])) tally →
    IsTally (filter (joins_latches t.flat storage) (take (k + 1) t.pairs)) tally
tally_next t storage k tally below h = rw (filter_more (joins_latches t.flat storage) t.pairs k no_pair below) h

-- what a tally of all pairs says
pub head_is : (pairs : List Pair) (first : Pair) → slice_get pairs 0 ≡ Some first → (later : List Pair) × (pairs ≡ first ∷ later)
head_is [] first is = cc
head_is (p ∷ ps) first is = (ps, cc)

pub none_is : (pairs : List Pair) → slice_get pairs 0 ≡ None → pairs ≡ []
none_is [] is = refl
none_is (p ∷ ps) is = cc

pub some_found : (t : Timing) (storage : ℕ) (tally : Tally) (found : SamePhase) → IsTally (same_pairs t storage) tally → tally.first ≡ Some found.first → found.count ≡ tally.count → IsSamePhase t storage found
some_found t storage tally found h first count =
    let head = head_is (same_pairs t storage) found.first (sym h.first ∙ first) in
    record { later = head.0; first = head.1; count = count ∙ h.count }

pub none_found : (t : Timing) (storage : ℕ) (tally : Tally) → IsTally (same_pairs t storage) tally → tally.first ≡ None → same_pairs t storage ≡ []
none_found t storage tally h none = none_is (same_pairs t storage) (sym h.first ∙ none)

-- the first of one pair more is inside too
pub inside_more : (o : Option Pair) (pair : Pair) (count : ℕ) → pair.from < count → pair.to < count → IfSome o (λ p. (p.from < count) × (p.to < count)) →
    (unwrap_or o pair).from < count
inside_more None pair count from to h = from
inside_more (Some p) pair count from to h = h.0

pub inside_more_to : (o : Option Pair) (pair : Pair) (count : ℕ) → pair.from < count → pair.to < count → IfSome o (λ p. (p.from < count) × (p.to < count)) →
    (unwrap_or o pair).to < count
inside_more_to None pair count from to h = to
inside_more_to (Some p) pair count from to h = h.1
