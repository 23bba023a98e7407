-- Loops over pins, outputs and entries.
use Rattle.std.proofs.Common.{◌≡◌, ℕ, ◌+◌, ◌<◌, Bool, true, false, ◌&&◌, List, [], ◌∷◌, ◌++◌, length, map, take, drop, get_or, sym, ap, ◌∙◌, Vec, Global}
use Rattle.std.specs.List.{list_all}
use Rattle.std.proofs.lemmas.List.{drop_more, take_more, map-append}
use Rattle.mintc_senses_expressions.specs.declared.transitions.Transitions.{Transitions}
use Rattle.mintc_senses.specs.Seen.{rows_seen}

-- what is left at an item
left_at : {A : Type 0} (xs : List A) (i : ℕ) (x : A) → i < length xs → x ≡ get_or xs i x → drop i xs ≡ x ∷ drop (i + 1) xs
left_at xs i x h is = drop_more xs i x h ∙ ap (λ y. y ∷ drop (i + 1) xs) (sym is)

-- a test of all items that one of them fails, and that one of them passes
module _ {A : Type 0} (q : A → Bool) (xs : List A) (i : ℕ) (x : A) (whole : Bool) (h : i < length xs) (is : x ≡ get_or xs i x) (left : whole ≡ list_all q (drop i xs)) where
  pub one_fails : q x ≡ false → false ≡ whole
  one_fails failed = sym (left ∙ ap (list_all q) (left_at xs i x h is) ∙ ap (λ b. b && list_all q (drop (i + 1) xs)) failed)

  pub one_passes : q x ≡ true → whole ≡ list_all q (drop (i + 1) xs)
  one_passes passed = left ∙ ap (list_all q) (left_at xs i x h is) ∙ ap (λ b. b && list_all q (drop (i + 1) xs)) passed

-- the same of what is seen of the items
module _ {A B : Type 0} (q : B → Bool) (f : A → B) (xs : List A) (i : ℕ) (x : A) (whole : Bool) (h : i < length xs) (is : x ≡ get_or xs i x) (left : whole ≡ list_all q (map f (drop i xs))) where
  pub seen_fails : q (f x) ≡ false → false ≡ whole
  seen_fails failed = sym (left ∙ ap (λ ys. list_all q (map f ys)) (left_at xs i x h is) ∙ ap (λ b. b && list_all q (map f (drop (i + 1) xs))) failed)

  pub seen_passes : q (f x) ≡ true → whole ≡ list_all q (map f (drop (i + 1) xs))
  seen_passes passed = left ∙ ap (λ ys. list_all q (map f ys)) (left_at xs i x h is) ∙ ap (λ b. b && list_all q (map f (drop (i + 1) xs))) passed

-- one more row
pub row_more : (g : List ℕ → List Transitions) (xs : List (List ℕ)) (i : ℕ) (x : List ℕ) (rows new : List (Vec Transitions Global)) (r : Vec Transitions Global) → i < length xs → x ≡ get_or xs i x →
    rows_seen rows ≡ map g (take i xs) → r.items ≡ g x → new ≡ rows ++ r ∷ [] → rows_seen new ≡ map g (take (i + 1) xs)
row_more g xs i x rows new r h is so_far here made =
    ap rows_seen made ∙ map-append (λ (v : Vec Transitions Global). v.items) rows (r ∷ []) ∙ ap (λ ys. ys ++ r.items ∷ []) so_far ∙ ap (λ y. map g (take i xs) ++ y ∷ []) (here ∙ ap g is)
    ∙ sym (ap (map g) (take_more xs i x h) ∙ map-append g (take i xs) (get_or xs i x ∷ []))
