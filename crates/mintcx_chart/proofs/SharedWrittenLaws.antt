-- What is written in parts: each part stands behind what is written before it.
use Rattle.std.proofs.Common.{◌≡◌, ℕ, List, ◌++◌, append_assoc, ap, ◌∙◌}

-- two parts
pub in_two : (old a new p q : List ℕ) → a ≡ old ++ p → new ≡ a ++ q → new ≡ old ++ (p ++ q)
in_two old a new p q e f = f ∙ ap (λ (v : List ℕ). v ++ q) e ∙ append_assoc old p q

-- three parts
pub in_three : (old a b new p q r : List ℕ) → a ≡ old ++ p → b ≡ a ++ q → new ≡ b ++ r → new ≡ old ++ (p ++ q ++ r)
in_three old a b new p q r e f g = in_two old b new (p ++ q) r (in_two old a b p q e f) g

-- four parts
pub in_four : (old a b c new p q r s : List ℕ) → a ≡ old ++ p → b ≡ a ++ q → c ≡ b ++ r → new ≡ c ++ s → new ≡ old ++ (p ++ q ++ r ++ s)
in_four old a b c new p q r s e f g h = in_two old c new (p ++ q ++ r) s (in_three old a b c p q r e f g) h

-- five parts
pub in_five : (old a b c d new p q r s t : List ℕ) → a ≡ old ++ p → b ≡ a ++ q → c ≡ b ++ r → d ≡ c ++ s → new ≡ d ++ t → new ≡ old ++ (p ++ q ++ r ++ s ++ t)
in_five old a b c d new p q r s t e f g h i = in_two old d new (p ++ q ++ r ++ s) t (in_four old a b c d p q r s e f g h) i

-- six parts
pub in_six : (old a b c d e new p q r s t u : List ℕ) → a ≡ old ++ p → b ≡ a ++ q → c ≡ b ++ r → d ≡ c ++ s → e ≡ d ++ t → new ≡ e ++ u →
    new ≡ old ++ (p ++ q ++ r ++ s ++ t ++ u)
in_six old a b c d e new p q r s t u f g h i j k = in_two old e new (p ++ q ++ r ++ s ++ t) u (in_five old a b c d e p q r s t f g h i j) k
