-- Claims that hold or don't.
use Rattle.std.proofs.Common.{◌≡◌, ◌≢◌, ℕ, zero, suc, ◌<◌, ◌≤◌, ℤ, ◌≤ℤ◌, ◌<ℤ◌, Bool, true, false, List, [], ◌∷◌, IsTrue, IsFalse, IfSome, MatchBool, Option, Some, None, refl, subst, ◌⊎◌, inl, inr, ⊎_elim, arith}
use Rattle.std.specs.List.{All}
use Rattle.std.proofs.lemmas.Bool.{cases_lt, cases_eq}
use Rattle.std.proofs.lemmas.Int.{ints, by_lt_z}
use Rattle.std.proofs.lemmas.List.Elements.{All-nil, All-cons, All-head, All-tail}

-- It holds, or it doesn't.
abbrev pub Decided : Type 0 → Type 0
Decided A = A ⊎ (A → ⊥)

pub moved : {A B : Type 0} → (A → B) → (B → A) → Decided A → Decided B
moved there back (inl a) = inl (there a)
moved there back (inr none) = inr (λ b. none (back b))

pub both : {A B : Type 0} → Decided A → Decided B → Decided (A × B)
both (inl a) (inl b) = inl (a, b)
both (inl a) (inr none) = inr (λ h. none h.1)
both (inr none) b = inr (λ h. none h.0)

pub follows : {A B : Type 0} → Decided A → Decided B → Decided (A → B)
follows (inl a) (inl b) = inl (λ h. b)
follows (inl a) (inr none) = inr (λ f. none (f a))
follows (inr none) b = inl (λ a. absurd (none a))

pub always : Decided (Unit {0})
always = inl tt

pub at_most : (x y : ℤ) → Decided (x ≤ℤ y)
at_most x y = by_lt_z y x (λ less. inr (λ h. omega (arith, ints, less, h))) (λ more. inl more)

pub above : (x y : ℤ) → Decided (x <ℤ y)
above x y = by_lt_z x y (λ less. inl less) (λ more. inr (λ h. omega (arith, ints, more, h)))

same_from : (x y : ℤ) → x ≤ℤ y → y ≤ℤ x → x ≡ y
same_from x y h k = omega (arith, ints)

same_order : (x y : ℤ) → x ≡ y → (x ≤ℤ y) × (y ≤ℤ x)
same_order x y e = (omega (arith, ints), omega (arith, ints))

pub same : (x y : ℤ) → Decided (x ≡ y)
same x y = moved (λ (h : (x ≤ℤ y) × (y ≤ℤ x)). same_from x y h.0 h.1) (same_order x y) (both (at_most x y) (at_most y x))

pub equal : (a b : ℕ) → Decided (a ≡ b)
equal a b = ⊎_elim (λ (e : a ≡ b). inl e) (λ (apart : a ≢ b). inr (λ e. apart e)) (cases_eq a b)

pub below : (a b : ℕ) → Decided (a < b)
below a b = ⊎_elim (λ (h : a < b). inl h) (λ (h : b ≤ a). inr (λ k. omega (arith, h, k))) (cases_lt a b)

pub up_to : (a b : ℕ) → Decided (a ≤ b)
up_to a b = ⊎_elim (λ (h : b < a). inr (λ k. omega (arith, h, k))) (λ (h : a ≤ b). inl h) (cases_lt b a)

pub flag : (b : Bool) → Decided (IsTrue b)
flag true = inl refl
flag false = inr (λ e. cc)

pub no_flag : (b : Bool) → Decided (IsFalse b)
no_flag true = inr (λ e. cc)
no_flag false = inl refl

pub by_flag : (b : Bool) (A B : Type 0) → Decided A → Decided B → Decided (MatchBool b A B)
by_flag true A B a c = a
by_flag false A B a c = c

pub if_some : (o : Option ℤ) (P : ℤ → Type 0) → ((x : ℤ) → Decided (P x)) → Decided (IfSome o P)
if_some None P each = inl tt
if_some (Some x) P each = each x

module _ (P : ℕ → Type 0) (each : (n : ℕ) → Decided (P n)) where
  one_more : (c : ℕ) → ((n : ℕ) → n < c → P n) → P c → (n : ℕ) → n < suc c → P n
  one_more c all here n lt =
      ⊎_elim
      (λ (lower : n < c). all n lower)
      (λ (past : c ≤ n). let is : c ≡ n = omega arith in subst P is here)
      (cases_lt n c)

  -- of all numbers below a count
  pub each_below : (c : ℕ) → Decided ((n : ℕ) → n < c → P n)
  each_below zero = inl (λ n lt. absurd (omega arith))
  each_below (suc c) =
      moved (λ (h : ((n : ℕ) → n < c → P n) × P c). one_more c h.0 h.1) (λ h. ((λ n lt. h n (omega arith)), h c (omega arith)))
      (both (each_below c) (each c))

  -- of all numbers from 1 to a count
  pub each_from_one : (c : ℕ) → Decided ((n : ℕ) → 1 ≤ n → n ≤ c → P n)
  each_from_one zero = inl (λ n low high. absurd (omega arith))
  each_from_one (suc c) =
      moved (λ (h : ((n : ℕ) → 1 ≤ n → n ≤ c → P n) × P (suc c)). last_one c h.0 h.1) (λ h. ((λ n low high. h n low (omega arith)), h (suc c) (omega arith) (omega arith)))
      (both (each_from_one c) (each (suc c)))
    where
      last_one : (c : ℕ) → ((n : ℕ) → 1 ≤ n → n ≤ c → P n) → P (suc c) → (n : ℕ) → 1 ≤ n → n ≤ suc c → P n
      last_one c all here n low high =
          ⊎_elim
          (λ (lower : n < suc c). all n low (omega arith))
          (λ (past : suc c ≤ n). let is : suc c ≡ n = omega arith in subst P is here)
          (cases_lt n (suc c))

-- of all items of a list
pub each_item : {X : Type 0} (P : X → Type 0) → ((x : X) → Decided (P x)) → (xs : List X) → Decided (All P xs)
each_item P each [] = inl (All-nil P)
each_item P each (x ∷ xs) =
    moved (λ (h : P x × All P xs). All-cons P x xs h.0 h.1) (λ h. (All-head P x xs h, All-tail P x xs h))
    (both (each x) (each_item P each xs))
