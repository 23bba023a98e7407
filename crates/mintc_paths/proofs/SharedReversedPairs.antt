-- Pairs reversed back are those of the design.
use Rattle.std.proofs.Common.{◌≡◌, ◌≢◌, ℕ, ◌<◌, ◌≤◌, ◌+◌, Bool, List, [], ◌∷◌, length, get_or, eqb, map, reverse, arith, refl, ap, ◌∙◌, sym, subst, inl, inr}
use Rattle.std.proofs.lemmas.Bool.{leb-false, leb-true}
use Rattle.std.proofs.lemmas.Bool.Decides.{Decides-eqb}
use Rattle.std.proofs.lemmas.List.{get_or-map}
use Rattle.std.proofs.lemmas.Map.Keys.{IsDistinct-IsPermutation}
use Rattle.std.proofs.lemmas.Map.Made.{AllPairs-from_IsDistinct, IsDistinct-from_AllPairs}
use Rattle.std.proofs.lemmas.List.Sorted.{IsNonDecreasingBy-from_all_adjacent, IsNonDecreasingBy-insert, IsNonDecreasingBy-short, IsPermutation-map, IsPermutation-refl, IsPermutation-cons, IsPermutation-insert, IsPermutation-trans, All-permutation, Contains-permutation, length_permutation}
use Rattle.std.proofs.lemmas.List.Sums.{prefix_len-le-length, prefix_len_passes, prefix_len_stops}
use Rattle.std.proofs.lemmas.List.Elements.{All-map}
use Rattle.std.proofs.Math.Dec.{leb}
use Rattle.std.proofs.Math.ListN.{length-map}
use Rattle.std.specs.List.{All, AllAdjacentBelow, AllPairs, Contains, insert, prefix_len}
use Rattle.std.specs.List.Sorted.{IsPermutation, IsNonDecreasingBy}
use Rattle.mintc_timing.specs.declared.parts.Pair.{Pair}
use Rattle.mintc_timing.specs.Design.{Design, no_pair}
use Rattle.mintc_timing.specs.Limits.{IsDesign}
use Rattle.mintc_timing.specs.Paths.{IsPath, input_of, HasExtremes, ComesBefore}
use Rattle.mintc_timing.proofs.SharedMembers.{Contains-map}
use Rattle.mintc_paths_sums.specs.Placed.{row_of}
use Rattle.mintc_paths.specs.declared.found.Found.{Found}
use Rattle.mintc_text.specs.declared.limits.TheConstants.{MOST_ELEMENTS}
use Rattle.mintc_paths.specs.Found.{Precede, ArePairsBefore, IsFoundBefore}
use Rattle.mintc_paths.specs.Sums.{LeadsBack}
use Rattle.mintc_paths.specs.Reversed.{reversed_design, pair_back, key_of}
use Rattle.mintc_paths.proofs.SharedReversedPaths.{forward, HasExtremes-back}

-- No two pairs of the list have one key.
abbrev AreApart : List Pair → Type 0
AreApart pairs = AllPairs (λ x y. x ≢ y) (map key_of pairs)

AreApart-permutation : (xs ys : List Pair) → IsPermutation xs ys → AreApart xs → AreApart ys
AreApart-permutation xs ys moved h =
    AllPairs-from_IsDistinct Decides-eqb (map key_of ys)
    (IsDistinct-IsPermutation eqb eqb_flips (map key_of xs) (map key_of ys) (IsPermutation-map key_of xs ys moved) (IsDistinct-from_AllPairs Decides-eqb (map key_of xs) h))
  where
    eqb_flips : (x y : ℕ) → eqb x y ≡ eqb y x
    eqb_flips x y = grind arith

module _ (n : ℕ) (few : n ≤ MOST_ELEMENTS) (elements places : List ℕ) (back : LeadsBack n elements places) (pairs : List Pair)
    (inside : All (λ (p : Pair). (p.from < n) × (p.to < n)) pairs) (ascending : AllAdjacentBelow ComesBefore pairs (length pairs)) where
  key_rises : (p q : Pair) → p.to < MOST_ELEMENTS → ComesBefore p q → key_of p < key_of q
  key_rises p q low h = grind arith

  -- keys rise along the list
  next_rises : AllAdjacentBelow (λ p q. key_of p < key_of q) pairs (length pairs)
  next_rises k d below = key_rises (get_or pairs k d) (get_or pairs (k + 1) d) (omega (arith, inside k d (omega arith))) (ascending k d below)

  rises : AllPairs (λ p q. key_of p < key_of q) pairs
  rises i j d less low =
      let later = IsNonDecreasingBy-from_all_adjacent key_of pairs (λ k e below. omega (arith, next_rises k e below)) in
      omega (arith, next_rises i d (omega arith), later (i + 1) j d (omega arith) low)

  -- a pair's key says that of the pair that it is reversed back from
  same_key : (p q : Pair) → p.from < n → q.from < n → key_of (pair_back elements p) ≡ key_of (pair_back elements q) → key_of p ≡ key_of q
  same_key p q in_p in_q e = grind (arith, back.inside p.from, back.inside q.from, back.leads p.from, back.leads q.from)

  AreApart-back : AreApart (map (pair_back elements) pairs)
  AreApart-back i j d less low_j e =
      let reversed : List Pair = map (pair_back elements) pairs in
      let in_j : j < length pairs = omega (arith, length-map reversed key_of, length-map pairs (pair_back elements)) in
      let key_at = λ (k : ℕ) (low : k < length pairs).
      get_or-map key_of reversed k no_pair d (omega (arith, length-map pairs (pair_back elements))) ∙ ap key_of (get_or-map (pair_back elements) pairs k no_pair no_pair low) in
      omega (arith, rises i j no_pair less in_j, same_key (get_or pairs i no_pair) (get_or pairs j no_pair) (inside i no_pair (omega arith)).0 (inside j no_pair in_j).0 (sym (key_at i (omega arith)) ∙ e ∙ key_at j in_j))

-- keys that don't fall, of pairs apart, rise
ascends : (n : ℕ) → n ≤ MOST_ELEMENTS → (pairs : List Pair) → All (λ (p : Pair). p.to < n) pairs → AreApart pairs → IsNonDecreasingBy key_of pairs → AllAdjacentBelow ComesBefore pairs (length pairs)
ascends n few pairs inside apart sorted k d below =
    let low : k < length pairs = omega arith in
    let ne : key_of (get_or pairs k d) ≢ key_of (get_or pairs (k + 1) d) =
    λ e. apart k (k + 1) 0 (omega arith) (omega (arith, length-map pairs key_of)) (get_or-map key_of pairs k d 0 low ∙ e ∙ sym (get_or-map key_of pairs (k + 1) d 0 below)) in
    comes (get_or pairs k d) (get_or pairs (k + 1) d) (omega (arith, inside k d low)) (omega (arith, inside (k + 1) d below)) (omega (arith, sorted k (k + 1) d (omega arith) below))
  where
    comes : (p q : Pair) → p.to < MOST_ELEMENTS → q.to < MOST_ELEMENTS → key_of p < key_of q → ComesBefore p q
    comes p q in_p in_q order = grind arith

-- Each list has an order by keys.
sorted_of : (xs : List Pair) → (ys : List Pair) × IsPermutation xs ys × IsNonDecreasingBy key_of ys
sorted_of [] = ([], IsPermutation-refl [], IsNonDecreasingBy-short key_of [] (omega arith))
sorted_of (x ∷ xs) =
    let rest = sorted_of xs in
    let lower : Pair → Bool = λ y. leb (key_of y) (key_of x) in
    let i : ℕ = prefix_len lower rest.0 in (
      insert rest.0 i x,
      IsPermutation-trans (x ∷ xs) (x ∷ rest.0) (insert rest.0 i x) (IsPermutation-cons x xs rest.0 rest.1) (IsPermutation-insert rest.0 i x),
      IsNonDecreasingBy-insert key_of rest.0 i x rest.2 (prefix_len-le-length lower rest.0)
          (λ k d below. leb-true (key_of (get_or rest.0 k d)) (key_of x) (prefix_len_passes lower rest.0 k d below))
          (λ k d from below. omega (arith, leb-false (key_of (get_or rest.0 i d)) (key_of x) (prefix_len_stops lower rest.0 d (omega arith)), rest.2 i k d from below)),
    )

module _ (design : Design) (kept : IsDesign design) (places elements : List ℕ) (there : LeadsBack (length design.elements) places elements) (back : LeadsBack (length design.elements) elements places)
    (old : List Pair) (h : ArePairsBefore (reversed_design places design) (length design.elements) 0 old) where
  module _ (pairs : List Pair) (moved : IsPermutation (map (pair_back elements) old) pairs) (sorted : IsNonDecreasingBy key_of pairs) where
    each_inside : All (λ (p : Pair). (p.from < length design.elements) × (p.to < length design.elements)) old
    each_inside k d low = let extremes = h.each k d low in (extremes.from, extremes.to)

    each_sorted : All (HasExtremes design) pairs
    each_sorted = All-permutation (HasExtremes design) (map (pair_back elements) old) pairs moved
        (All-map (HasExtremes design) (pair_back elements) old (λ k d low. HasExtremes-back design places elements kept there back (get_or old k d) (h.each k d low)))

    apart : AreApart pairs
    apart = AreApart-permutation (map (pair_back elements) old) pairs moved
        (AreApart-back (length design.elements) kept.elements elements places back old each_inside h.ascending)

    whole : (j l : ℕ) (path : List ℕ) → Precede (length design.elements) 0 j l → l < length design.elements → IsPath design.arcs j path (input_of l) →
        (pair : Pair) × Contains pairs pair × (pair.from ≡ j) × (pair.to ≡ l)
    whole j l path (inr g) below is_path = absurd (omega (arith, g.1))
    whole j l path (inl from) below is_path =
        let n : ℕ = length design.elements in
        let reversed = forward n (length design.inner) places elements there back design.arcs kept.each_arc j l path from below is_path in
        let at = h.whole (row_of places l) j (reverse path) (inl (there.inside l below)) from reversed in
        let in_map = Contains-map (pair_back elements) old at.0 at.1 in
        (pair_back elements at.0, Contains-permutation (map (pair_back elements) old) pairs (pair_back elements at.0) moved in_map, at.3, ap (row_of elements) at.2 ∙ there.leads l below)

    ArePairsBefore-moved : ArePairsBefore design (length design.elements) 0 pairs
    ArePairsBefore-moved = record {
      each = each_sorted;
      ascending = ascends (length design.elements) kept.elements pairs (λ k d low. (each_sorted k d low).to) apart sorted;
      earlier = λ k d low. inl (each_sorted k d low).from;
      whole = whole;
    }

    count_moved : length pairs ≡ length old
    count_moved = length_permutation (map (pair_back elements) old) pairs moved ∙ length-map old (pair_back elements)

  -- The design has as many pairs as the one reversed.
  pub ArePairsBefore-back : (pairs : List Pair) × ArePairsBefore design (length design.elements) 0 pairs × (length pairs ≡ length old)
  ArePairsBefore-back =
      let order = sorted_of (map (pair_back elements) old) in
      (order.0, ArePairsBefore-moved order.0 order.1 order.2, count_moved order.0 order.1 order.2)

module _ (design : Design) (kept : IsDesign design) (places elements : List ℕ) (there : LeadsBack (length design.elements) places elements) (back : LeadsBack (length design.elements) elements places)
    (found : Found) (h : IsFoundBefore (reversed_design places design) (length design.elements) 0 found) where
  IsFoundBefore-moved : (pairs : List Pair) → ArePairsBefore design (length design.elements) 0 pairs → length pairs ≡ length h.pairs →
      (new : Found) → new.count ≡ found.count → (length pairs ≤ new.most → new.pairs.items ≡ pairs) → IsFoundBefore design (length design.elements) 0 new
  IsFoundBefore-moved pairs are_pairs same new same_count items = record {
    pairs = pairs;
    are_pairs = are_pairs;
    has_pairs = record {
      count = omega arith;
      kept = items;
    };
    few = omega arith;
  }

  pub IsFoundBefore-back : found.count ≤ found.most → (pairs : List Pair) → IsPermutation (map (pair_back elements) found.pairs.items) pairs → IsNonDecreasingBy key_of pairs →
      (new : Found) → new.count ≡ found.count → new.pairs.items ≡ pairs → IsFoundBefore design (length design.elements) 0 new
  IsFoundBefore-back few pairs moved sorted new same_count items =
      let is = h.has_pairs.kept (omega arith) in
      let back_moved : IsPermutation (map (pair_back elements) h.pairs) pairs = subst (λ ps. IsPermutation (map (pair_back elements) ps) pairs) is moved in
      IsFoundBefore-moved pairs (ArePairsBefore-moved design kept places elements there back h.pairs h.are_pairs pairs back_moved sorted)
      (count_moved design kept places elements there back h.pairs h.are_pairs pairs back_moved sorted) new same_count (λ g. items)

  -- where the pairs are more than are kept
  pub IsFoundBefore-many : found.most < found.count → IsFoundBefore design (length design.elements) 0 found
  IsFoundBefore-many many =
      let back_pairs = ArePairsBefore-back design kept places elements there back h.pairs h.are_pairs in
      IsFoundBefore-moved back_pairs.0 back_pairs.1 back_pairs.2 found refl (λ g. absurd (omega arith))
