-- The elements of latches and flops, one by one.
use Rattle.std.proofs.Common.{◌≡◌, ◌<◌, ◌≤◌, ◌+◌, ℕ, ℤ, Bool, true, false, cond, List, [], ◌∷◌, ◌++◌, length, get_or, slice_index_or, map, flat_map, filter, take, drop, zip, Option, Some, None, refl, sym, ap, ◌∙◌, arith, append_assoc, append-nil, length-append}
use Rattle.std.specs.List.{range_with_len}
use Rattle.std.proofs.lemmas.List.{map-append}
use Rattle.std.proofs.lemmas.List.Sums.{length-filter, count_by_more_no}
use Rattle.std.proofs.lemmas.Grind.{flat_map-append}
use Rattle.mintc_flatten_hierarchy.specs.declared.hierarchy.Hierarchy.{Hierarchy}
use Rattle.mintc_flatten_hierarchy.specs.Shape.{CellTable}
use Rattle.mintc_annotate_resolve.specs.Pins.{leaf_cell, all_leaves, is_storage}
use Rattle.mintc_annotate.specs.Made.{number_in}
use Rattle.mintc_annotate.specs.Phases.{storage}
use Rattle.mintc_annotate.proofs.SharedTraceLaws.{stored, stored_more, stored_split, stored_all, leaf_number, within_all}
use Rattle.mintc_edges.specs.declared.edge.Edge.{Edge}
use Rattle.mintc_edges.specs.declared.edge.Edge.TheVariants.{Rise, Fall}
use Rattle.mintc_edges.specs.Edges.{both_edges}
use Rattle.mintc_edges.specs.Numbers.{wider, widest}
use Rattle.mintc_edges.proofs.CountLaws.{range_more}
use Rattle.mintc_edges.proofs.WiderLaws.{wider-group}

wider-none : (a : Option (ℤ × ℤ)) → wider a None ≡ a
wider-none None = refl
wider-none (Some x) = refl

-- what two lists of ranges say
pub widest-lists : (xs ys : List (Option (ℤ × ℤ))) → widest (xs ++ ys) ≡ wider (widest xs) (widest ys)
widest-lists [] ys = refl
widest-lists (x ∷ xs) ys = ap (wider x) (widest-lists xs ys) ∙ sym (wider-group x (widest xs) (widest ys))

-- what one more says
widest-append : (xs : List (Option (ℤ × ℤ))) (x : Option (ℤ × ℤ)) → widest (xs ++ x ∷ []) ≡ wider (widest xs) x
widest-append [] x = wider-none x
widest-append (y ∷ xs) x = ap (wider y) (widest-append xs x) ∙ sym (wider-group y (widest xs) x)

pub widest-more : (f : ℕ → Option (ℤ × ℤ)) (k : ℕ) → widest (map f (range_with_len 0 (k + 1))) ≡ wider (widest (map f (range_with_len 0 k))) (f k)
widest-more f k = ap (λ xs. widest (map f xs)) (range_more k) ∙ ap widest (map-append f (range_with_len 0 k) (k ∷ [])) ∙ widest-append (map f (range_with_len 0 k)) (f k)

-- what is said at those of both edges that pass a test
pub ends-said : (f : Edge → Option (ℤ × ℤ)) (p : Edge → Bool) → wider (cond (p Rise) (f Rise) None) (cond (p Fall) (f Fall) None) ≡ widest (map f (filter p both_edges))
ends-said f p = by (p Rise) (p Fall)
  where
    by : (a b : Bool) → wider (cond a (f Rise) None) (cond b (f Fall) None) ≡ widest (map f (cond a (Rise ∷ cond b (Fall ∷ []) []) (cond b (Fall ∷ []) [])))
    by true true = ap (wider (f Rise)) (sym (wider-none (f Fall)))
    by true false = refl
    by false true = sym (wider-none (f Fall))
    by false false = refl

module _ {A B : Type 0} where
  zip-push : (xs : List A) (x : A) (ys : List B) (d : B) → length xs < length ys → zip (xs ++ x ∷ []) ys ≡ zip xs ys ++ (x, get_or ys (length xs) d) ∷ []
  zip-push [] x [] d less = absurd (omega (arith, less))
  zip-push [] x (y ∷ ys) d less = refl
  zip-push (z ∷ xs) x [] d less = absurd (omega (arith, less))
  zip-push (z ∷ xs) x (y ∷ ys) d less = ap (λ l. (z, y) ∷ l) (zip-push xs x ys d (omega (arith, less)))

-- the number of the next latch or flop after another leaf
pub number-no : (h : Hierarchy) (cells : CellTable) (k : ℕ) → k < length h.leaves → is_storage (leaf_cell h cells k) ≡ false → number_in h cells (k + 1) ≡ number_in h cells k
number-no h cells k within is = count_by_more_no (λ l. is_storage (leaf_cell h cells l)) (all_leaves h) k 0 (within_all h k within) (ap (λ (l : ℕ). is_storage (leaf_cell h cells l)) (leaf_number h k within) ∙ is)

-- a latch or flop has a place behind those before it
front-shorter : (h : Hierarchy) (cells : CellTable) (k : ℕ) → k < length h.leaves → stored h cells k ≡ true → length (filter (stored h cells) (take k (all_leaves h))) < length (storage h cells)
front-shorter h cells k within is =
    omega (arith, ap length (stored_split h cells k within is), length-append (filter (stored h cells) (take k (all_leaves h))) (k ∷ filter (stored h cells) (drop (k + 1) (all_leaves h))))

-- so many latches and flops stand before a leaf
pub front-count : (h : Hierarchy) (cells : CellTable) (k : ℕ) → length (filter (stored h cells) (take k (all_leaves h))) ≡ number_in h cells k
front-count h cells k = length-filter (stored h cells) (take k (all_leaves h))

-- a latch or flop has a number among them
pub numbered : (h : Hierarchy) (cells : CellTable) (l : ℕ) → l < length h.leaves → is_storage (leaf_cell h cells l) ≡ true → number_in h cells l < length (storage h cells)
numbered h cells l within stores = let count = front-count h cells l in let less = front-shorter h cells l within stores in omega (arith, count, less)

module _ {X : Type 0} (h : Hierarchy) (cells : CellTable) (phases : List ℕ) (many : length phases ≡ length (storage h cells)) (f : ℕ × ℕ → List X) where
  abbrev front : ℕ → List ℕ
  front k = filter (stored h cells) (take k (all_leaves h))

  turn : (old found more : List X) (k number : ℕ) (b : Bool) → k < length h.leaves → stored h cells k ≡ b → number ≡ number_in h cells k → found ≡ old ++ flat_map f (zip (front k) phases) →
      more ≡ found ++ cond b (f (k, slice_index_or phases number 0)) [] → more ≡ old ++ flat_map f (zip (front (k + 1)) phases)
  turn old found more k number true within is at so next =
      let less : length (front k) < length phases = omega (arith, front-shorter h cells k within is, many) in
      let place : length (front k) ≡ number = front-count h cells k ∙ sym at in
      let zipped : zip (front (k + 1)) phases ≡ zip (front k) phases ++ (k, slice_index_or phases number 0) ∷ [] =
      ap (λ l. zip l phases) (stored_more h cells k true within is) ∙ zip-push (front k) k phases 0 less ∙ ap (λ n. zip (front k) phases ++ (k, slice_index_or phases n 0) ∷ []) place in
      next ∙ ap (λ l. l ++ f (k, slice_index_or phases number 0)) so ∙ append_assoc old (flat_map f (zip (front k) phases)) (f (k, slice_index_or phases number 0))
      ∙ ap (λ l. old ++ l) (sym (ap (flat_map f) zipped ∙ flat_map-append f (zip (front k) phases) ((k, slice_index_or phases number 0) ∷ []) ∙ ap (λ l. flat_map f (zip (front k) phases) ++ l) (append-nil (f (k, slice_index_or phases number 0)))))
  turn old found more k number false within is at so next =
      next ∙ append-nil found ∙ so ∙ ap (λ l. old ++ flat_map f (zip l phases)) (sym (stored_more h cells k false within is ∙ append-nil (front k)))

  pub storage-pushed : (old found more : List X) (k number : ℕ) → k < length h.leaves → number ≡ number_in h cells k → found ≡ old ++ flat_map f (zip (front k) phases) →
      more ≡ found ++ cond (stored h cells k) (f (k, slice_index_or phases number 0)) [] → more ≡ old ++ flat_map f (zip (front (k + 1)) phases)
  storage-pushed old found more k number within at so next = turn old found more k number (stored h cells k) within refl at so next

  pub storage-whole : (old found : List X) (k : ℕ) → length h.leaves ≤ k → found ≡ old ++ flat_map f (zip (front k) phases) → found ≡ old ++ flat_map f (zip (storage h cells) phases)
  storage-whole old found k past so = so ∙ ap (λ l. old ++ flat_map f (zip l phases)) (stored_all h cells k past)
