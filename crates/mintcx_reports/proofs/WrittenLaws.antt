-- What is written in parts.
use Rattle.std.proofs.Common.{◌≡◌, ◌≢◌, zero, suc, List, [], ◌∷◌, ℕ, ◌++◌, decimal, append_assoc, ap, ◌∙◌, refl}
use Rattle.std.specs.Prelude.{codes}
use Rattle.mintcx_reports.specs.Borrowers.{edge_count_text}

pub appended : (old begun new first second : List ℕ) → begun ≡ old ++ first → new ≡ begun ++ second → new ≡ old ++ (first ++ second)
appended old begun new first second e f = f ∙ ap (λ v. v ++ second) e ∙ append_assoc old first second

pub of_three : (old a b new p q r : List ℕ) → a ≡ old ++ p → b ≡ a ++ q → new ≡ b ++ r → new ≡ old ++ (p ++ q ++ r)
of_three old a b new p q r e f g = rw (g, f, e) (simp append_assoc)

pub of_four : (old a b c new p q r s : List ℕ) → a ≡ old ++ p → b ≡ a ++ q → c ≡ b ++ r → new ≡ c ++ s → new ≡ old ++ (p ++ q ++ r ++ s)
of_four old a b c new p q r s e f g h = rw (h, g, f, e) (simp append_assoc)

pub of_five : (old a b c d new p q r s t : List ℕ) → a ≡ old ++ p → b ≡ a ++ q → c ≡ b ++ r → d ≡ c ++ s → new ≡ d ++ t → new ≡ old ++ (p ++ q ++ r ++ s ++ t)
of_five old a b c d new p q r s t e f g h i = rw (i, h, g, f, e) (simp append_assoc)

pub of_six : (old a b c d e new p q r s t u : List ℕ) → a ≡ old ++ p → b ≡ a ++ q → c ≡ b ++ r → d ≡ c ++ s → e ≡ d ++ t → new ≡ e ++ u →
    new ≡ old ++ (p ++ q ++ r ++ s ++ t ++ u)
of_six old a b c d e new p q r s t u i j k l m n = rw (n, m, l, k, j, i) (simp append_assoc)

-- at how many edges a latch borrows
some_edges : (n all : ℕ) → n ≢ 0 → n ≢ 1 →
    edge_count_text n all ≡ codes "latches borrow at " ++ decimal n ++ codes " edges of " ++ decimal all ++ codes ":" ++ 10 ∷ 10 ∷ []
some_edges zero all h k = absurd (h refl)
some_edges (suc zero) all h k = absurd (k refl)
some_edges (suc (suc n)) all h k = refl

pub at_one_edge : (old a b new : List ℕ) (n all : ℕ) → n ≡ 1 → a ≡ old ++ codes "a latch borrows at 1 edge of " → b ≡ a ++ decimal all →
    new ≡ b ++ (codes ":" ++ 10 ∷ 10 ∷ []) → new ≡ old ++ edge_count_text n all
at_one_edge old a b new n all one e f g = rw (one, g, f, e) (simp append_assoc)

pub at_edges : (old a b c d new : List ℕ) (n all : ℕ) → n ≢ 0 → n ≢ 1 → a ≡ old ++ codes "latches borrow at " → b ≡ a ++ decimal n →
    c ≡ b ++ codes " edges of " → d ≡ c ++ decimal all → new ≡ d ++ (codes ":" ++ 10 ∷ 10 ∷ []) → new ≡ old ++ edge_count_text n all
at_edges old a b c d new n all some more e f g h i = rw (some_edges n all some more, i, h, g, f, e) (simp append_assoc)
