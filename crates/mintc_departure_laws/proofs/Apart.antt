-- Pairs no two of which leave one element, in a row.
use Rattle.std.proofs.Common.{◌≡◌, ◌≢◌, ℕ, zero, suc, ◌<◌, ◌≤◌, List, [], ◌∷◌, ◌++◌, length, get_or, map, arith, sym, ap, ◌∙◌}
use Rattle.std.specs.List.{All, AllPairs}
use Rattle.std.proofs.lemmas.Bool.Decides.{Decides-eqb}
use Rattle.std.proofs.lemmas.List.{get_or-map, length-map}
use Rattle.std.proofs.lemmas.List.Elements.{All-nil, All-cons}
use Rattle.std.proofs.lemmas.Map.Made.{IsDistinct-from_AllPairs}
use Rattle.std.proofs.lemmas.Map.Steps.{length-le_from_distinct_below}
use Rattle.std.proofs.lemmas.Map.Views.{Contains-from_any}

-- Each item passes.
abbrev pub Every : (ℕ → Type 0) → List ℕ → Type 0
Every P [] = Unit {0}
Every P (x ∷ xs) = P x × Every P xs

pub every-front : (P : ℕ → Type 0) (front back : List ℕ) → Every P (front ++ back) → Every P front
every-front P [] back h = tt
every-front P (x ∷ front) back h = (h.0, every-front P front back h.1)

pub every-all : (P : ℕ → Type 0) (xs : List ℕ) → Every P xs → All P xs
every-all P [] h = All-nil P
every-all P (x ∷ xs) h = All-cons P x xs h.0 (every-all P xs h.1)

module _ (f : ℕ → ℕ) where
  -- No two items have one number.
  abbrev pub Apart : List ℕ → Type 0
  Apart [] = Unit {0}
  Apart (x ∷ xs) = Every (λ y. f x ≢ f y) xs × Apart xs

  pub apart-front : (front back : List ℕ) → Apart (front ++ back) → Apart front
  apart-front [] back h = tt
  apart-front (x ∷ front) back h = (every-front (λ y. f x ≢ f y) front back h.0, apart-front front back h.1)

  pub apart-at : (xs : List ℕ) → Apart xs → (i j d : ℕ) → i < j → j < length xs → f (get_or xs i d) ≢ f (get_or xs j d)
  apart-at [] h i j d lt within = absurd (omega arith)
  apart-at (x ∷ xs) h i zero d lt within = absurd (omega arith)
  apart-at (x ∷ xs) h zero (suc j) d lt within = every-all (λ y. f x ≢ f y) xs h.0 j d (omega arith)
  apart-at (x ∷ xs) h (suc i) (suc j) d lt within = apart-at xs h.1 i j d (omega arith) (omega arith)

-- numbers below n, no two of them equal, are at most n
few_distinct : (n : ℕ) (xs : List ℕ) → AllPairs (λ x y. x ≢ y) xs → All (λ x. x < n) xs → length xs ≤ n
few_distinct n xs apart below =
    length-le_from_distinct_below xs n (IsDistinct-from_AllPairs Decides-eqb xs apart)
    (λ q h. let at = Contains-from_any (λ x y e. (Decides-eqb x y).0 e) q xs h in let b : get_or xs at.0 q < n = below at.0 q at.1 in let e : get_or xs at.0 q ≡ q = at.2 in omega arith)

-- Items that are apart are at most as many as their numbers may be.
pub few_apart : (f : ℕ → ℕ) (n : ℕ) (xs : List ℕ) → Apart f xs → Every (λ x. f x < n) xs → length xs ≤ n
few_apart f n xs h k = let few = few_distinct n (map f xs) apart below in omega (arith, length-map xs f)
  where
    at : (i d : ℕ) → i < length xs → get_or (map f xs) i d ≡ f (get_or xs i 0)
    at i d lt = get_or-map f xs i 0 d lt

    apart : AllPairs (λ x y. x ≢ y) (map f xs)
    apart i j d lt within =
        let inside : j < length xs = omega (arith, length-map xs f) in
        λ e. apart-at f xs h i j 0 lt inside (sym (at i d (omega arith)) ∙ e ∙ at j d inside)

    below : All (λ x. x < n) (map f xs)
    below i d within =
        let inside : i < length xs = omega (arith, length-map xs f) in
        let b : f (get_or xs i 0) < n = every-all (λ x. f x < n) xs k i 0 inside in
        omega (arith, at i d inside)
