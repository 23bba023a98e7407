-- What holds of the items of a list, and where they stand, in lists that are joined, mapped, filtered and numbered.
use Rattle.std.proofs.Common.{◌≡◌, ℕ, zero, suc, ◌<◌, ◌≤◌, ◌+◌, ◌-◌, ◌*◌, Bool, true, false, cond, List, [], ◌∷◌, ◌++◌, length, get_or, map, arith, refl, ap, ◌∙◌, sym, ◌⊎◌, inl, inr, ⊎_elim, length-append}
use Rattle.std.proofs.lemmas.List.{length-map, get_or-map, get_or_default}
use Rattle.std.proofs.lemmas.List.FromFn.{get_or-range_with_len, length-range_with_len, get_or-enumerate_from, length-enumerate_from}
use Rattle.std.proofs.lemmas.List.Elements.{All-nil, All-cons, All-head, All-tail, All-append, All-contains, Contains-append_left, Contains-append_right}
use Rattle.std.specs.List.{All, Contains, range_with_len, enumerate_from, filter, flat_map}

-- what holds of each item of two lists, one after the other
pub All-front : {X : Type 0} (P : X → Type 0) (xs ys : List X) → All P (xs ++ ys) → All P xs
All-front P xs ys h = λ k d below.
    All-contains P (xs ++ ys) (get_or xs k d) h (Contains-append_left xs ys (get_or xs k d) (k, below, get_or_default xs k (get_or xs k d) d below))

pub All-back : {X : Type 0} (P : X → Type 0) (xs ys : List X) → All P (xs ++ ys) → All P ys
All-back P xs ys h = λ k d below.
    All-contains P (xs ++ ys) (get_or ys k d) h (Contains-append_right xs ys (get_or ys k d) (k, below, get_or_default ys k (get_or ys k d) d below))

-- where an item of a list stands
Contains-here : {X : Type 0} (x : X) (xs : List X) → Contains (x ∷ xs) x
Contains-here x xs = (0, omega arith, refl)

Contains-later : {X : Type 0} (x y : X) (xs : List X) → Contains xs y → Contains (x ∷ xs) y
Contains-later x y xs h = (suc h.0, let below = h.1 in omega arith, h.2)

Contains-cases : {X : Type 0} (x y : X) (xs : List X) → Contains (x ∷ xs) y → (x ≡ y) ⊎ Contains xs y
Contains-cases x y xs (zero, below, is) = inl is
Contains-cases x y xs (suc k, below, is) = inr (k, omega arith, is)

Contains-nothing : {X : Type 0} (y : X) → Contains [] y → ⊥
Contains-nothing y h = let below = h.1 in omega arith

pub Contains-map : {X Y : Type 0} (f : Y → X) (ys : List Y) (y : Y) → Contains ys y → Contains (map f ys) (f y)
Contains-map f ys y h = (h.0, rw (length-map ys f) h.1, get_or-map f ys h.0 y (f y) h.1 ∙ ap f h.2)

filter-step : {X : Type 0} (p : X → Bool) (x y : X) (kept : List X) (b : Bool) → p x ≡ b → p y ≡ true → (x ≡ y) ⊎ Contains kept y → Contains (cond b (x ∷ kept) kept) y
filter-step p x y kept true e passes (inl is) = (0, omega arith, is)
filter-step p x y kept true e passes (inr rest) = Contains-later x y kept rest
filter-step p x y kept false e passes (inl is) = absurd (let both : true ≡ false = sym passes ∙ ap p (sym is) ∙ e in cc)
filter-step p x y kept false e passes (inr rest) = rest

pub Contains-filter : {X : Type 0} (p : X → Bool) (xs : List X) (y : X) → p y ≡ true → Contains xs y → Contains (filter p xs) y
Contains-filter p [] y passes h = absurd (Contains-nothing y h)
Contains-filter p (x ∷ xs) y passes h =
    filter-step p x y (filter p xs) (p x) refl passes (⊎_elim (λ is. inl is) (λ rest. inr (Contains-filter p xs y passes rest)) (Contains-cases x y xs h))

flat-step : {X Y : Type 0} (f : X → List Y) (z x : X) (y : Y) (more : List Y) → Contains (f x) y → (z ≡ x) ⊎ Contains more y → Contains (f z ++ more) y
flat-step f z x y more g (inl is) = Contains-append_left (f z) more y (rw is g)
flat-step f z x y more g (inr rest) = Contains-append_right (f z) more y rest

pub Contains-flat_map : {X Y : Type 0} (f : X → List Y) (xs : List X) (x : X) (y : Y) → Contains xs x → Contains (f x) y → Contains (flat_map f xs) y
Contains-flat_map f [] x y h g = absurd (Contains-nothing x h)
Contains-flat_map f (z ∷ xs) x y h g =
    flat-step f z x y (flat_map f xs) g (⊎_elim (λ is. inl is) (λ rest. inr (Contains-flat_map f xs x y rest g)) (Contains-cases z x xs h))

pub Contains-range : (a n k : ℕ) → a ≤ k → k < a + n → Contains (range_with_len a n) k
Contains-range a n k low high =
    let small : k - a < n = omega arith in
    let is : a + (k - a) ≡ k = omega arith in
    (k - a, rw (length-range_with_len a n) small, get_or-range_with_len a n (k - a) k small ∙ is)

pub Contains-enumerate : {X : Type 0} (xs : List X) (n : ℕ) (d : X) → n < length xs → Contains (enumerate_from 0 xs) (n, get_or xs n d)
Contains-enumerate {X} xs n d h =
    let is : 0 + n ≡ n = omega arith in (
      n,
      rw (length-enumerate_from 0 xs) h,
      get_or-enumerate_from 0 xs n (n, get_or xs n d) h ∙ ap (λ (k : ℕ). (k, get_or xs n (get_or xs n d))) is ∙ ap (λ (x : X). (n, x)) (get_or_default xs n (get_or xs n d) d h),
    )

-- lengths
pub length-flat_map_at_most : {X Y : Type 0} (f : X → List Y) (most : ℕ) (xs : List X) → ((x : X) → length (f x) ≤ most) → length (flat_map f xs) ≤ length xs * most
length-flat_map_at_most f most [] h = omega arith
length-flat_map_at_most f most (x ∷ xs) h =
    let here = h x in
    let rest = length-flat_map_at_most f most xs h in
    let sum = length-append (f x) (flat_map f xs) in
    omega arith

-- what holds of the numbers from a on
pub All-range : (P : ℕ → Type 0) (a n : ℕ) → ((k : ℕ) → a ≤ k → k < a + n → P k) → All P (range_with_len a n)
All-range P a n h k d below =
    let count = length-range_with_len a n in
    let small : k < n = omega arith in
    rw (get_or-range_with_len a n k d small) (h (a + k) (omega arith) (omega arith))

-- what holds of those that pass
All-choice : {X : Type 0} (p : X → Bool) (P : X → Type 0) (x : X) (ys : List X) → All P ys → (p x ≡ true → P x) → (b : Bool) → p x ≡ b → All P (cond b (x ∷ ys) ys)
All-choice p P x ys rest here true e = All-cons P x ys (here e) rest
All-choice p P x ys rest here false e = rest

pub All-passing : {X : Type 0} (p : X → Bool) (P : X → Type 0) (xs : List X) → All (λ x. p x ≡ true → P x) xs → All P (filter p xs)
All-passing p P [] h = All-nil P
All-passing p P (x ∷ xs) h =
    All-choice p P x (filter p xs) (All-passing p P xs (All-tail (λ x. p x ≡ true → P x) x xs h)) (All-head (λ x. p x ≡ true → P x) x xs h) (p x) refl

pub All-pieces : {X Y : Type 0} (f : X → List Y) (P : Y → Type 0) (xs : List X) → All (λ x. All P (f x)) xs → All P (flat_map f xs)
All-pieces f P [] h = All-nil P
All-pieces f P (x ∷ xs) h = All-append P (f x) (flat_map f xs) (All-head (λ x. All P (f x)) x xs h) (All-pieces f P xs (All-tail (λ x. All P (f x)) x xs h))
