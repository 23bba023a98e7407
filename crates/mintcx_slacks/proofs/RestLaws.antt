-- Pairs that are left out, and pairs without slack.
use Rattle.std.proofs.Common.{◌≡◌, ◌≢◌, ℕ, zero, suc, ℤ, List, [], ◌∷◌, ◌++◌, decimal, refl, append_assoc}
use Rattle.std.specs.Prelude.{codes}
use Rattle.mintcx_amounts.specs.declared.unit.Unit.{Unit}
use Rattle.mintcx_slacks.specs.Slacks.{rest_text, tight_text, whole_text}

some_rest : (unit : Unit) (greatest : ℤ) (n : ℕ) → n ≢ 0 →
    rest_text unit greatest n ≡ codes "  " ++ decimal n ++ codes " more, up to " ++ whole_text unit greatest ++ codes " (--limit all)" ++ 10 ∷ []
some_rest unit greatest zero h = absurd (h refl)
some_rest unit greatest (suc n) h = refl

more_tight : (n : ℕ) → n ≢ 0 → n ≢ 1 → tight_text n ≡ decimal n ++ codes " have no slack and hold the clock back"
more_tight zero h k = absurd (h refl)
more_tight (suc zero) h k = absurd (k refl)
more_tight (suc (suc n)) h k = refl

-- seven lists in a row
in_a_row : (old a b c d e f : List ℕ) → old ++ a ++ b ++ c ++ d ++ (e ++ f) ≡ old ++ (a ++ b ++ c ++ d ++ e ++ f)
in_a_row old a b c d e f = simp append_assoc

-- what is written of some
pub rest_written : (unit : Unit) (greatest : ℤ) (old a b c d new : List ℕ) (n : ℕ) → n ≢ 0 → a ≡ old ++ codes "  " → b ≡ a ++ decimal n →
    c ≡ b ++ codes " more, up to " → d ≡ c ++ whole_text unit greatest → new ≡ d ++ (codes " (--limit all)" ++ 10 ∷ []) → new ≡ old ++ rest_text unit greatest n
rest_written unit greatest old a b c d new n some e f g h i =
    rw (some_rest unit greatest n some, i, h, g, f, e)
    (in_a_row old (codes "  ") (decimal n) (codes " more, up to ") (whole_text unit greatest) (codes " (--limit all)") (10 ∷ []))

pub tight_written : (old a new : List ℕ) (n : ℕ) → n ≢ 0 → n ≢ 1 → a ≡ old ++ decimal n → new ≡ a ++ codes " have no slack and hold the clock back" →
    new ≡ old ++ tight_text n
tight_written old a new n some more e f = rw (more_tight n some more, f, e) (simp append_assoc)

-- a whole text in seven parts
pub whole_written : (begun a b c d e f new p q r s t u v : List ℕ) → begun ≡ [] → a ≡ begun ++ p → b ≡ a ++ q → c ≡ b ++ r → d ≡ c ++ s → e ≡ d ++ t →
    f ≡ e ++ u → new ≡ f ++ v → new ≡ p ++ q ++ r ++ s ++ t ++ u ++ v
whole_written begun a b c d e f new p q r s t u v g h i j k l m n = rw (n, m, l, k, j, i, h, g) refl
