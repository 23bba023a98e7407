-- Sums of numbers that are nowhere greater, and how far one number is above another.
use Rattle.std.proofs.Common.{◌≡◌, ℕ, ℤ, pos, negsuc, ◌≤ℤ◌, ◌+ℤ◌, ◌-ℤ◌, List, [], ◌∷◌, All, ◌⊎◌, inl, inr, arith, refl}
use Rattle.std.proofs.lemmas.Int.{ints, by_lt_z}
use Rattle.std.proofs.lemmas.List.Elements.{All-nil, All-cons, All-head, All-tail}
use Rattle.mintc_graph.specs.Rings.{total}

-- how far one number is above another, at most
pub gap : (x y : ℤ) → (n : ℕ) × (y ≤ℤ (x +ℤ pos n))
gap x y = by (y -ℤ x) refl
  where
    by : (z : ℤ) → y -ℤ x ≡ z → (n : ℕ) × (y ≤ℤ (x +ℤ pos n))
    by (pos n) e = (n, omega (arith, ints))
    by (negsuc n) e = (0, omega (arith, ints))

module _ (f g : ℕ → ℤ) where
  pub total-mono : (xs : List ℕ) → All (λ x. f x ≤ℤ g x) xs → total f xs ≤ℤ total g xs
  total-mono [] h = omega (arith, ints)
  total-mono (x ∷ xs) h =
      let here = All-head (λ x. f x ≤ℤ g x) x xs h in
      let rest = total-mono xs (All-tail (λ x. f x ≤ℤ g x) x xs h) in
      omega (arith, ints)

  same_or_less : (x : ℕ) → f x ≤ℤ g x → (f x ≡ g x) ⊎ ((f x +ℤ pos 1) ≤ℤ g x)
  same_or_less x h = by_lt_z (f x) (g x) (λ lt. inr (omega (arith, ints))) (λ le. inl (omega (arith, ints)))

  abbrev pub Drops : List ℕ → Type 0
  Drops xs = All (λ x. f x ≡ g x) xs ⊎ ((total f xs +ℤ pos 1) ≤ℤ total g xs)

  more : (x : ℕ) (xs : List ℕ) → f x ≤ℤ g x → total f xs ≤ℤ total g xs → (f x ≡ g x) ⊎ ((f x +ℤ pos 1) ≤ℤ g x) → Drops xs → Drops (x ∷ xs)
  more x xs h rest (inl same) (inl all) = inl (All-cons (λ x. f x ≡ g x) x xs same all)
  more x xs h rest (inl same) (inr less) = inr (omega (arith, ints))
  more x xs h rest (inr less) d = inr (omega (arith, ints))

  -- Numbers that are nowhere greater are the same everywhere, or their sum is less.
  pub drops : (xs : List ℕ) → All (λ x. f x ≤ℤ g x) xs → Drops xs
  drops [] h = inl (All-nil (λ x. f x ≡ g x))
  drops (x ∷ xs) h =
      let here = All-head (λ x. f x ≤ℤ g x) x xs h in
      let rest = All-tail (λ x. f x ≤ℤ g x) x xs h in
      more x xs here (total-mono xs rest) (same_or_less x here) (drops xs rest)
