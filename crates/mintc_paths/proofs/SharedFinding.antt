-- One more pair.
use Rattle.std.proofs.Common.{min, ◌≡◌, ◌≢◌, ℕ, ◌<◌, ◌≤◌, ◌+◌, ◌*◌, ℤ, List, [], ◌∷◌, ◌++◌, length, get_or, arith, refl, ap, ◌∙◌, sym, ◌⊎◌, inl, inr, ⊎_elim, subst, length-append, Option, Some, None}
use Rattle.std.proofs.lemmas.List.{get_or_append_left, get_or_push}
use Rattle.std.specs.Prelude.{Result, Ok, Err, OnOk}
use Rattle.mintc_lanes.specs.Lanes.{lane_at}
use Rattle.mintc_paths_sums.specs.declared.sums.Sums.{Sums}
use Rattle.mintc_paths_sums.specs.Sums.{sums_at}
use Rattle.mintc_paths_sums.specs.Placed.{row_of, placed}
use Rattle.mintc_paths_sums.proofs.SharedPlaced.{placed_at}
use Rattle.mintc_paths_sums.proofs.SharedNoSums.{none_at}
use Rattle.mintc_paths.specs.Reached.{IsPaired, IsPairedLane, pair_of}
use Rattle.std.specs.List.{All, AllAdjacentBelow}
use Rattle.std.proofs.lemmas.List.Elements.{All-push, Contains-append_left, Contains-push}
use Rattle.mintc_timing.specs.declared.parts.Pair.{Pair}
use Rattle.mintc_timing.specs.Design.{Design}
use Rattle.mintc_timing.specs.Paths.{IsPath, input_of, HasExtremes, ComesBefore, ArePairs}
use Rattle.mintc_paths.specs.declared.found.Found.{Found}
use Rattle.mintc_paths.specs.declared.rows.Rows.{Rows}
use Rattle.mintc_paths.specs.Sums.{AreRows}
use Rattle.mintc_text.specs.declared.limits.TheConstants.{MOST_ELEMENTS}
use Rattle.mintc_paths.specs.Found.{Precede, ArePairsBefore, HasPairs, IsFoundBefore, AreEnds, end_at, most_count}
use Rattle.mintc_paths.proofs.SharedClimbing.{IsToEnd, IsToEnd-at, IsToEnd-more, IsToEnd-all}

Precede-more : (from to a b : ℕ) → Precede from to a b → Precede from (to + 1) a b
Precede-more from to a b h = grind arith

Precede-split : (from to a b : ℕ) → Precede from (to + 1) a b → Precede from to a b ⊎ ((a ≡ from) × (b ≡ to))
Precede-split from to a b h = grind arith

Precede-next : (from n a b : ℕ) → Precede from n a b → Precede (from + 1) 0 a b
Precede-next from n a b h = grind arith

Precede-last : (from n a b : ℕ) → b < n → Precede (from + 1) 0 a b → Precede from n a b
Precede-last from n a b low h = grind arith

-- a list that ascends, with one more item that comes after its last
ascending_push : {X : Type 0} (R : X → X → Type 0) (xs : List X) (x : X) → AllAdjacentBelow R xs (length xs) → All (λ y. R y x) xs → AllAdjacentBelow R (xs ++ x ∷ []) (length (xs ++ x ∷ []))
ascending_push {X} R xs x h g k d below = grind (arith, length-append, get_or_append_left, get_or_push, h k d, g k d)

pub ArePairsBefore-none : (design : Design) → ArePairsBefore design 0 0 []
ArePairsBefore-none design = record {
  each = λ k d g. absurd (omega arith);
  ascending = λ k d g. absurd (omega arith);
  earlier = λ k d g. absurd (omega arith);
  whole = λ j l path g below is. absurd (none j l g);
}
  where
    none : (j l : ℕ) → Precede 0 0 j l → ⊥
    none j l h = grind arith

module _ (design : Design) (from to : ℕ) (pairs : List Pair) (h : ArePairsBefore design from to pairs) where
  pub ArePairsBefore-skip : ((path : List ℕ) → IsPath design.arcs from path (input_of to) → ⊥) → ArePairsBefore design from (to + 1) pairs
  ArePairsBefore-skip none = record {
    each = h.each;
    ascending = h.ascending;
    earlier = λ k d low. Precede-more from to (get_or pairs k d).from (get_or pairs k d).to (h.earlier k d low);
    whole = λ j l path g below is. ⊎_elim (λ old. h.whole j l path old below is)
        (λ new. absurd (none path (subst (λ b. IsPath design.arcs from path (input_of b)) new.1 (subst (λ a. IsPath design.arcs a path (input_of l)) new.0 is))))
        (Precede-split from to j l g);
  }

  pub ArePairsBefore-push : (pair : Pair) → HasExtremes design pair → pair.from ≡ from → pair.to ≡ to → ArePairsBefore design from (to + 1) (pairs ++ pair ∷ [])
  ArePairsBefore-push pair extremes is_from is_to = record {
    each = All-push (HasExtremes design) pairs pair h.each extremes;
    ascending = ascending_push ComesBefore pairs pair h.ascending (λ k d low. comes_before (get_or pairs k d) (h.earlier k d low));
    earlier = All-push (λ (p : Pair). Precede from (to + 1) p.from p.to) pairs pair (λ k d low. Precede-more from to (get_or pairs k d).from (get_or pairs k d).to (h.earlier k d low)) (inr (is_from, omega arith));
    whole = λ j l path g below is. ⊎_elim
        (λ old. let found = h.whole j l path old below is in (found.0, Contains-append_left pairs (pair ∷ []) found.0 found.1, found.2, found.3))
        (λ new. (pair, Contains-push pairs pair, is_from ∙ sym new.0, is_to ∙ sym new.1))
        (Precede-split from to j l g);
  }
    where
      comes_before : (p : Pair) → Precede from to p.from p.to → ComesBefore p pair
      comes_before p g = grind arith

pub ArePairsBefore-next : (design : Design) (from : ℕ) (pairs : List Pair) → ArePairsBefore design from (length design.elements) pairs → ArePairsBefore design (from + 1) 0 pairs
ArePairsBefore-next design from pairs h = record {
  each = h.each;
  ascending = h.ascending;
  earlier = λ k d low. Precede-next from (length design.elements) (get_or pairs k d).from (get_or pairs k d).to (h.earlier k d low);
  whole = λ j l path g below is. h.whole j l path (Precede-last from (length design.elements) j l below g) below is;
}

pub ArePairs-from_before : (design : Design) (pairs : List Pair) → ArePairsBefore design (length design.elements) 0 pairs → ArePairs design pairs
ArePairs-from_before design pairs h = record {
  each = h.each;
  ascending = h.ascending;
  whole = λ j l path from to is. h.whole j l path (inl from) to is;
}

pub HasPairs-push : (old new : Found) (pairs : List Pair) (pair : Pair) → HasPairs old pairs → new.count ≡ old.count + 1 → new.most ≡ old.most →
    (old.count < old.most → new.pairs.items ≡ old.pairs.items ++ pair ∷ []) → HasPairs new (pairs ++ pair ∷ [])
HasPairs-push old new pairs pair h count most kept = record {
  count = omega (arith, length-append pairs (pair ∷ []));
  kept = λ few. let n = length-append pairs (pair ∷ []) in kept (omega arith) ∙ ap (λ xs. xs ++ pair ∷ []) (h.kept (omega arith));
}

pub IsFoundBefore-skip : (design : Design) (from to : ℕ) (found : Found) → ((path : List ℕ) → IsPath design.arcs from path (input_of to) → ⊥) →
    IsFoundBefore design from to found → IsFoundBefore design from (to + 1) found
IsFoundBefore-skip design from to found none h = record {
  pairs = h.pairs;
  are_pairs = ArePairsBefore-skip design from to h.pairs h.are_pairs none;
  has_pairs = h.has_pairs;
  few = omega arith;
}

pub IsFoundBefore-push : (design : Design) (from to : ℕ) (old new : Found) (pair : Pair) → HasExtremes design pair → pair.from ≡ from → pair.to ≡ to → new.count ≡ old.count + 1 → new.most ≡ old.most →
    (old.count < old.most → new.pairs.items ≡ old.pairs.items ++ pair ∷ []) → IsFoundBefore design from to old → IsFoundBefore design from (to + 1) new
IsFoundBefore-push design from to old new pair extremes is_from is_to count most kept h = record {
  pairs = h.pairs ++ pair ∷ [];
  are_pairs = ArePairsBefore-push design from to h.pairs h.are_pairs pair extremes is_from is_to;
  has_pairs = HasPairs-push old new h.pairs pair h.has_pairs count most kept;
  few = omega (arith, length-append h.pairs (pair ∷ []));
}

pub IsFoundBefore-next : (design : Design) (from : ℕ) (found : Found) → length design.elements ≤ MOST_ELEMENTS → IsFoundBefore design from (length design.elements) found → IsFoundBefore design (from + 1) 0 found
IsFoundBefore-next design from found limit h = record { pairs = h.pairs; are_pairs = ArePairsBefore-next design from h.pairs h.are_pairs; has_pairs = h.has_pairs; few = omega arith }

-- what a call of add_at leaves
abbrev pub IsAdded : ℕ → ℕ → Option ℤ → Option ℤ → Found → Found → Type 0
IsAdded from to max min old new = (design : Design) → IsPaired design from to max min → IsFoundBefore design from to old → IsFoundBefore design from (to + 1) new

pub IsAdded_none : (from to : ℕ) (x y : Option ℤ) (found : Found) → x ≡ None → IsAdded from to x y found found
IsAdded_none from to x y found e = λ design paired h. IsFoundBefore-skip design from to found (rw e at paired) h

pub IsAdded_some : {T E : Type 0} (r : Result T E) (from to : ℕ) (x y : Option ℤ) (max min : ℤ) (old new : Found) → x ≡ Some max → y ≡ Some min → OnOk r (new.count ≡ old.count + 1) → new.most ≡ old.most →
    OnOk r (old.count < old.most → new.pairs.items ≡ old.pairs.items ++ pair_of from to min max ∷ []) → OnOk r (IsAdded from to x y old new)
IsAdded_some (Ok v) from to x y max min old new e f count most kept = λ design paired h. IsFoundBefore-push design from to old new (pair_of from to min max) (rw (e, f) at paired) refl refl count most kept h
IsAdded_some (Err v) from to x y max min old new e f count most kept = kept

pub pairs_found : (design : Design) (found : Found) → IsFoundBefore design (length design.elements) 0 found → found.count ≤ found.most → ArePairs design found.pairs.items
pairs_found design found h few =
    let count = h.has_pairs.count in
    subst (λ ps. ArePairs design ps) (sym (h.has_pairs.kept (omega arith))) (ArePairs-from_before design h.pairs h.are_pairs)

pub few_found : (most : ℕ) (design : Design) (found : Found) → IsFoundBefore design (length design.elements) 0 found → most ≤ found.most → found.count ≤ most → length found.pairs.items ≤ most
few_found most design found h within few =
    let count = h.has_pairs.count in
    let same : length found.pairs.items ≡ length h.pairs = ap (λ (ps : List Pair). length ps) (h.has_pairs.kept (omega arith)) in
    omega arith

pub many_found : (most : ℕ) (design : Design) (found : Found) → IsFoundBefore design (length design.elements) 0 found → most < found.count → found.count ≤ most_count →
    (pairs : List Pair) × ArePairs design pairs × (most < length pairs) × (found.count ≡ min (length pairs) 1000000000)
many_found most design found h many few =
    let count = h.has_pairs.count in
    (h.pairs, ArePairs-from_before design h.pairs h.are_pairs, omega arith, omega arith)

-- What is found are the pairs before some element, which comes after the ends before this one and not after this one.
abbrev pub IsFoundToEnd : Design → ℕ → List ℕ → ℕ → Found → Type 0
IsFoundToEnd design from ends number found = IsToEnd (λ to. IsFoundBefore design from to found) (length design.elements) ends number

module _ (design : Design) (rows : Rows) (sums : List Sums) (ends : List ℕ) (are : AreRows (length sums) rows) (bits : 2 * length design.elements ≤ length sums)
    (are_ends : AreEnds rows.of_bits.items sums (length design.elements) ends) (from lane : ℕ) (low : lane < 8)
    (paired : IsPairedLane design (placed rows.of_bits.items sums) from lane) where
  paired_at : (to : ℕ) → to < length design.elements →
      IsPaired design from to (lane_at (sums_at sums (row_of rows.of_bits.items (input_of to))).greatest lane) (lane_at (sums_at sums (row_of rows.of_bits.items (input_of to))).least lane)
  paired_at to below = rw (placed_at rows.of_bits.items sums (input_of to) (omega (arith, are.of_bits.count))) at (paired to below)

  none_between : (to : ℕ) → to < length design.elements → ((i : ℕ) → i < length ends → end_at ends i ≢ to) → (path : List ℕ) → IsPath design.arcs from path (input_of to) → ⊥
  none_between to below apart =
      let none = ap (λ (s : Sums). lane_at s.greatest lane) (are_ends.others to below apart) ∙ (none_at lane low).0 in
      rw none at (paired_at to below)

  skip : (found : Found) (to : ℕ) → to < length design.elements → ((i : ℕ) → i < length ends → end_at ends i ≢ to) → IsFoundBefore design from to found → IsFoundBefore design from (to + 1) found
  skip found to below apart = IsFoundBefore-skip design from to found (none_between to below apart)

  -- a call of add_at for the end itself
  pub IsFoundToEnd-more : (number : ℕ) (old new : Found) → number < length ends →
      IsAdded from (end_at ends number) (lane_at (sums_at sums (row_of rows.of_bits.items (input_of (end_at ends number)))).greatest lane) (lane_at (sums_at sums (row_of rows.of_bits.items (input_of (end_at ends number)))).least lane) old new →
      IsFoundToEnd design from ends number old → IsFoundToEnd design from ends (number + 1) new
  IsFoundToEnd-more number old new low added h =
      let before = IsToEnd-at (length design.elements) ends are_ends.ascending are_ends.inside (λ to. IsFoundBefore design from to old) (skip old) number low h in
      IsToEnd-more (length design.elements) ends are_ends.ascending are_ends.inside (λ to. IsFoundBefore design from to new) number low (added design (paired_at (end_at ends number) (are_ends.inside number low)) before)

  pub IsFoundToEnd-next : (found : Found) → length design.elements ≤ MOST_ELEMENTS → IsFoundToEnd design from ends (length ends) found → IsFoundBefore design (from + 1) 0 found
  IsFoundToEnd-next found limit h =
      IsFoundBefore-next design from found limit
      (IsToEnd-all (length design.elements) ends are_ends.ascending are_ends.inside (λ to. IsFoundBefore design from to found) (skip found) h)
