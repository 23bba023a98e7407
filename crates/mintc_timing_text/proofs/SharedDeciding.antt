-- What can be decided: facts, and whether something within bounds has a property that can be decided of each.
use Rattle.std.proofs.Common.{◌≡◌, ℕ, zero, suc, ◌<◌, ◌≤◌, ℤ, pos, negsuc, ◌≤ℤ◌, Bool, true, false, List, [], ◌∷◌, length, arith, refl, sym, subst, ◌⊎◌, inl, inr, ⊎_elim, IsTrue, IsFalse}
use Rattle.std.proofs.lemmas.Bool.{cases_eq, cases_lt}
use Rattle.std.proofs.lemmas.Int.{ints, by_lt_z}

-- a fact or its contrary
abbrev pub Decided : Type 0 → Type 0
Decided A = A ⊎ (A → ⊥)

pub same_decided : {A B : Type 0} → (A → B) → (B → A) → Decided A → Decided B
same_decided f g (inl a) = inl (f a)
same_decided f g (inr none) = inr (λ b. none (g b))

pub both_decided : {A B : Type 0} → Decided A → Decided B → Decided (A × B)
both_decided (inl a) (inl b) = inl (a, b)
both_decided (inl a) (inr none) = inr (λ h. none h.1)
both_decided (inr none) other = inr (λ h. none h.0)

pub either_decided : {A B : Type 0} → Decided A → Decided B → Decided (A ⊎ B)
either_decided (inl a) other = inl (inl a)
either_decided (inr none) (inl b) = inl (inr b)
either_decided (inr none) (inr neither) = inr (λ h. ⊎_elim none neither h)

pub if_decided : {A B : Type 0} → Decided A → Decided B → Decided (A → B)
if_decided (inl a) (inl b) = inl (λ h. b)
if_decided (inl a) (inr none) = inr (λ h. none (h a))
if_decided (inr none) other = inl (λ h. absurd (none h))

pub most_decided : (a b : ℕ) → Decided (a ≤ b)
most_decided a b = ⊎_elim (λ (high : b < a). inr (λ h. omega arith)) (λ (low : a ≤ b). inl low) (cases_lt b a)

pub most_decided_z : (a b : ℤ) → Decided (a ≤ℤ b)
most_decided_z a b = by_lt_z b a (λ high. inr (λ h. omega (arith, ints))) (λ low. inl low)

pub same_decided_z : (a b : ℤ) → Decided (a ≡ b)
same_decided_z a b = same_decided (λ h. omega (arith, ints)) (λ same. (omega (arith, ints), omega (arith, ints)))
    (both_decided (most_decided_z a b) (most_decided_z b a))

pub true_decided : (b : Bool) → Decided (IsTrue b)
true_decided true = inl refl
true_decided false = inr (λ h. cc h)

pub false_decided : (b : Bool) → Decided (IsFalse b)
false_decided true = inr (λ h. cc h)
false_decided false = inl refl

-- whether two texts are one
heads : (x y : ℕ) (xs ys : List ℕ) → Decided (x ≡ y) → Decided (xs ≡ ys) → Decided (x ∷ xs ≡ y ∷ ys)
heads x y xs ys (inl a) (inl b) = inl (cc (a, b))
heads x y xs ys (inl a) (inr none) = inr (λ same. none (cc same))
heads x y xs ys (inr none) other = inr (λ same. none (cc same))

pub text_decided : (xs ys : List ℕ) → Decided (xs ≡ ys)
text_decided [] [] = inl refl
text_decided [] (y ∷ ys) = inr (λ same. cc same)
text_decided (x ∷ xs) [] = inr (λ same. cc same)
text_decided (x ∷ xs) (y ∷ ys) = heads x y xs ys (cases_eq x y) (text_decided xs ys)

-- Of the values within bounds it can be decided whether some has a property, where it can of each.
abbrev pub Searched : {X : Type 0} → (X → Type 0) → Type 1
Searched {X} B = (P : X → Type 0) → ((x : X) → Decided (P x)) → Decided ((x : X) × B x × P x)

-- the same of what is made of such values
pub searched_as : {X Y : Type 0} (B : X → Type 0) (C : Y → Type 0) (f : X → Y) → ((x : X) → B x → C (f x)) → ((y : Y) → C y → (x : X) × B x × (f x ≡ y)) → Searched B → Searched C
searched_as B C f there back search P each = same_decided (λ h. (f h.0, there h.0 h.1, h.2)) (λ h. let from = back h.0 h.1 in (from.0, from.1, subst P (sym from.2) h.2))
    (search (λ x. P (f x)) (λ x. each (f x)))

pub searched_both : {X Y : Type 0} (B : X → Type 0) (C : Y → Type 0) → Searched B → Searched C → Searched (λ (p : X × Y). B p.0 × C p.1)
searched_both {X} {Y} B C search other P each = same_decided (λ h. ((h.0, h.2.0), (h.1, h.2.1), h.2.2)) (λ h. (h.0.0, h.1.0, (h.0.1, h.1.1, h.2)))
    (search (λ x. (y : Y) × C y × P (x, y)) (λ x. other (λ y. P (x, y)) (λ y. each (x, y))))

pub searched_either : {X : Type 0} (B C : X → Type 0) → Searched B → Searched C → Searched (λ x. B x ⊎ C x)
searched_either B C search other P each = same_decided
    (λ h. ⊎_elim (λ a. (a.0, inl a.1, a.2)) (λ a. (a.0, inr a.1, a.2)) h)
    (λ h. ⊎_elim (λ b. inl (h.0, b, h.2)) (λ c. inr (h.0, c, h.2)) h.1)
    (either_decided (search P each) (other P each))

-- the values themselves
pub searched_unit : Searched (λ (u : Unit {0}). Unit {0})
searched_unit P each = same_decided (λ h. (tt, tt, h)) (λ h. h.2) (each tt)

pub searched_bool : Searched (λ (b : Bool). Unit {0})
searched_bool P each = same_decided (λ h. ⊎_elim (λ a. (true, tt, a)) (λ a. (false, tt, a)) h) (λ h. by h.0 h.2) (either_decided (each true) (each false))
  where
    by : (b : Bool) → P b → P true ⊎ P false
    by true h = inl h
    by false h = inr h

-- the numbers up to one
more_numbers : (most : ℕ) (P : ℕ → Type 0) → Decided ((n : ℕ) × (n ≤ most) × P n) → Decided (P (suc most)) → Decided ((n : ℕ) × (n ≤ suc most) × P n)
more_numbers most P (inl found) here = inl (found.0, (let low = found.1 in omega arith), found.2)
more_numbers most P (inr none) (inl here) = inl (suc most, omega arith, here)
more_numbers most P (inr none) (inr not_here) = inr (λ h. ⊎_elim
    (λ (same : h.0 ≡ suc most). not_here (subst P same h.2))
    (λ (other : h.0 ≡ suc most → ⊥). none (h.0, lower h.0 h.1 other, h.2))
    (cases_eq h.0 (suc most)))
  where
    lower : (n : ℕ) → n ≤ suc most → (n ≡ suc most → ⊥) → n ≤ most
    lower n low other = grind arith

pub searched_numbers : (most : ℕ) → Searched (λ n. n ≤ most)
searched_numbers zero P each = same_decided (λ h. (0, omega arith, h)) (λ h. subst P (let low = h.1 in omega arith) h.2) (each 0)
searched_numbers (suc most) P each = more_numbers most P (searched_numbers most P each) (each (suc most))

-- the whole numbers between two
abbrev size_of : ℤ → ℕ
size_of (pos n) = n
size_of (negsuc n) = n

high_size : (n : ℕ) (most : ℤ) → pos n ≤ℤ most → n ≤ size_of most
high_size n (pos m) h = omega (arith, ints)
high_size n (negsuc m) h = absurd (omega (arith, ints))

low_size : (n : ℕ) (least : ℤ) → least ≤ℤ negsuc n → n ≤ size_of least
low_size n (pos m) h = absurd (omega (arith, ints))
low_size n (negsuc m) h = omega (arith, ints)

abbrev IsFrom : ℤ → ℤ → ℤ → Type 0
IsFrom least most z = (least ≤ℤ z) × (z ≤ℤ most)

pub searched_whole : (least most : ℤ) → Searched (IsFrom least most)
searched_whole least most P each = same_decided
    (λ h. ⊎_elim (λ a. (pos a.0, a.2.0, a.2.1)) (λ a. (negsuc a.0, a.2.0, a.2.1)) h)
    (λ h. by h.0 h.1 h.2)
    (either_decided
    (searched_numbers (size_of most) (λ n. IsFrom least most (pos n) × P (pos n)) (λ n. both_decided (inside (pos n)) (each (pos n))))
    (searched_numbers (size_of least) (λ n. IsFrom least most (negsuc n) × P (negsuc n)) (λ n. both_decided (inside (negsuc n)) (each (negsuc n)))))
  where
    inside : (z : ℤ) → Decided (IsFrom least most z)
    inside z = both_decided (most_decided_z least z) (most_decided_z z most)

    by : (z : ℤ) → IsFrom least most z → P z →
        ((n : ℕ) × (n ≤ size_of most) × (IsFrom least most (pos n) × P (pos n))) ⊎ ((n : ℕ) × (n ≤ size_of least) × (IsFrom least most (negsuc n) × P (negsuc n)))
    by (pos n) h p = inl (n, high_size n most h.1, (h, p))
    by (negsuc n) h p = inr (n, low_size n least h.0, (h, p))

-- texts of so many numbers at most, each up to one
abbrev pub AreUpTo : ℕ → List ℕ → Type 0
AreUpTo high [] = Unit {0}
AreUpTo high (x ∷ xs) = (x ≤ high) × AreUpTo high xs

pub searched_texts : (high most : ℕ) → Searched (λ (xs : List ℕ). (length xs ≤ most) × AreUpTo high xs)
searched_texts high zero P each = same_decided (λ h. ([], (omega arith, tt), h)) (λ h. none h.0 h.1.0 h.2) (each [])
  where
    none : (xs : List ℕ) → length xs ≤ 0 → P xs → P []
    none [] low h = h
    none (x ∷ xs) low h = absurd (omega arith)
searched_texts high (suc most) P each = same_decided
    (λ h. ⊎_elim (λ a. ([], (omega arith, tt), a)) (λ a. (a.0.0 ∷ a.0.1, (let low = a.1.1.0 in omega arith, (a.1.0, a.1.1.1)), a.2)) h)
    (λ h. by h.0 h.1 h.2)
    (either_decided (each [])
    (searched_both (λ x. x ≤ high) (λ (xs : List ℕ). (length xs ≤ most) × AreUpTo high xs) (searched_numbers high) (searched_texts high most) (λ p. P (p.0 ∷ p.1)) (λ p. each (p.0 ∷ p.1))))
  where
    by : (xs : List ℕ) → (length xs ≤ suc most) × AreUpTo high xs → P xs →
        P [] ⊎ ((p : ℕ × List ℕ) × ((p.0 ≤ high) × ((length p.1 ≤ most) × AreUpTo high p.1)) × P (p.0 ∷ p.1))
    by [] h p = inl p
    by (x ∷ xs) h p = inr ((x, xs), (h.1.0, (let low = h.0 in omega arith, h.1.1)), p)
