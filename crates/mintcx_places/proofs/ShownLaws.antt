-- A line in its parts.
use Rattle.std.proofs.Common.{◌≡◌, ◌∙◌, ap, ℕ, ◌-◌, max, List, [], ◌++◌, length, arith, append_assoc, length-append}

-- two parts from the start
pub begun : {z a b : List ℕ} (p q : List ℕ) → z ≡ [] → a ≡ z ++ p → b ≡ a ++ q → b ≡ p ++ q
begun p q e f g = g ∙ ap (λ v. v ++ q) (f ∙ ap (λ v. v ++ p) e)

-- two parts at the end
pub ended : {d e new : List ℕ} (old s t : List ℕ) → d ≡ old → e ≡ d ++ s → new ≡ e ++ t → new ≡ old ++ (s ++ t)
ended old s t f g h = h ∙ ap (λ v. v ++ t) (g ∙ ap (λ v. v ++ s) f) ∙ append_assoc old s t

-- how many marks there are, from one place of what is written to another
pub counted : (before marked : List ℕ) (caret end : ℕ) → caret ≡ length before → end ≡ length (before ++ marked) → max (end - caret) 1 ≡ max (length marked) 1
counted before marked caret end f g = omega (arith, length-append before marked)
