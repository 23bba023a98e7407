-- Texts one behind the other.
use Rattle.std.proofs.Common.{◌≡◌, ◌∙◌, ℕ, List, [], ◌++◌, ap}

-- three texts, one behind the other
made_of_three : {z a b new : List ℕ} (p q r : List ℕ) → z ≡ [] → a ≡ z ++ p → b ≡ a ++ q → new ≡ b ++ r → new ≡ p ++ q ++ r
made_of_three p q r e f g h = h ∙ ap (λ v. v ++ r) (g ∙ ap (λ v. v ++ q) (f ∙ ap (λ v. v ++ p) e))

-- four texts
pub made_of_four : {z a b c new : List ℕ} (p q r s : List ℕ) → z ≡ [] → a ≡ z ++ p → b ≡ a ++ q → c ≡ b ++ r → new ≡ c ++ s → new ≡ p ++ q ++ r ++ s
made_of_four p q r s e f g h i = i ∙ ap (λ v. v ++ s) (made_of_three p q r e f g h)
