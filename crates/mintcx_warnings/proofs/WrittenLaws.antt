-- What is written in parts: each part stands behind what is written before it.
use Rattle.std.proofs.Common.{◌≡◌, ◌∙◌, ap, List, [], ℕ, ◌++◌, append_assoc, refl}

-- two parts
pub in_two : {a new : List ℕ} (old p q : List ℕ) → a ≡ old ++ p → new ≡ a ++ q → new ≡ old ++ (p ++ q)
in_two old p q e f = rw (f, e) (append_assoc old p q)

-- three parts
pub in_three : {a b new : List ℕ} (old p q r : List ℕ) → a ≡ old ++ p → b ≡ a ++ q → new ≡ b ++ r → new ≡ old ++ (p ++ q ++ r)
in_three old p q r e f g = in_two old (p ++ q) r (in_two old p q e f) g

-- four parts
pub in_four : {a b c new : List ℕ} (old p q r s : List ℕ) → a ≡ old ++ p → b ≡ a ++ q → c ≡ b ++ r → new ≡ c ++ s → new ≡ old ++ (p ++ q ++ r ++ s)
in_four old p q r s e f g h = in_two old (p ++ q ++ r) s (in_three old p q r e f g) h

-- from the start: one part, and more
pub made_of_one : {z new : List ℕ} (p : List ℕ) → z ≡ [] → new ≡ z ++ p → new ≡ p
made_of_one p e f = f ∙ ap (λ v. v ++ p) e

pub made_of_two : {z a new : List ℕ} (p q : List ℕ) → z ≡ [] → a ≡ z ++ p → new ≡ a ++ q → new ≡ p ++ q
made_of_two p q e f g = in_two [] p q (made_of_one p e f) g

pub made_of_three : {z a b new : List ℕ} (p q r : List ℕ) → z ≡ [] → a ≡ z ++ p → b ≡ a ++ q → new ≡ b ++ r → new ≡ p ++ q ++ r
made_of_three p q r e f g h = made_of_two (p ++ q) r refl (made_of_two p q e f g) h

pub made_of_four : {z a b c new : List ℕ} (p q r s : List ℕ) → z ≡ [] → a ≡ z ++ p → b ≡ a ++ q → c ≡ b ++ r → new ≡ c ++ s → new ≡ p ++ q ++ r ++ s
made_of_four p q r s e f g h i = made_of_two (p ++ q ++ r) s refl (made_of_three p q r e f g h) i

pub made_of_five : {z a b c d new : List ℕ} (p q r s t : List ℕ) → z ≡ [] → a ≡ z ++ p → b ≡ a ++ q → c ≡ b ++ r → d ≡ c ++ s → new ≡ d ++ t →
    new ≡ p ++ q ++ r ++ s ++ t
made_of_five p q r s t e f g h i j = made_of_two (p ++ q ++ r ++ s) t refl (made_of_four p q r s e f g h i) j

pub made_of_six : {z a b c d x new : List ℕ} (p q r s t u : List ℕ) → z ≡ [] → a ≡ z ++ p → b ≡ a ++ q → c ≡ b ++ r → d ≡ c ++ s → x ≡ d ++ t → new ≡ x ++ u →
    new ≡ p ++ q ++ r ++ s ++ t ++ u
made_of_six p q r s t u e f g h i j k = made_of_two (p ++ q ++ r ++ s ++ t) u refl (made_of_five p q r s t e f g h i j) k
