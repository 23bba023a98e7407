-- What is written in parts: each part stands behind what is written before it.
use Rattle.std.proofs.Common.{◌≡◌, ◌==◌, ◌∙◌, ap, false, List, [], ◌∷◌, ℕ, ◌++◌, length, append_assoc}
use Rattle.std.specs.Prelude.{codes, replicate}
use Rattle.mintcx_places.specs.declared.excerpts.Excerpt.{Excerpt}
use Rattle.mintcx_refusals.specs.Messages.{arrow_text, excerpt_text, file_text, line_text, marks_text, padded, short_file}

-- two parts
pub in_two : {a new : List ℕ} (old p q : List ℕ) → a ≡ old ++ p → new ≡ a ++ q → new ≡ old ++ (p ++ q)
in_two old p q e f = rw (f, e) (append_assoc old p q)

-- three parts
pub in_three : {a b new : List ℕ} (old p q r : List ℕ) → a ≡ old ++ p → b ≡ a ++ q → new ≡ b ++ r → new ≡ old ++ (p ++ q ++ r)
in_three old p q r e f g = in_two old (p ++ q) r (in_two old p q e f) g

-- four parts
pub in_four : {a b c new : List ℕ} (old p q r s : List ℕ) → a ≡ old ++ p → b ≡ a ++ q → c ≡ b ++ r → new ≡ c ++ s → new ≡ old ++ (p ++ q ++ r ++ s)
in_four old p q r s e f g h = in_two old (p ++ q ++ r) s (in_three old p q r e f g) h

-- five parts
pub in_five : {a b c d new : List ℕ} (old p q r s t : List ℕ) → a ≡ old ++ p → b ≡ a ++ q → c ≡ b ++ r → d ≡ c ++ s → new ≡ d ++ t →
    new ≡ old ++ (p ++ q ++ r ++ s ++ t)
in_five old p q r s t e f g h i = in_two old (p ++ q ++ r ++ s) t (in_four old p q r s e f g h) i

-- six parts
pub in_six : {a b c d x new : List ℕ} (old p q r s t u : List ℕ) → a ≡ old ++ p → b ≡ a ++ q → c ≡ b ++ r → d ≡ c ++ s → x ≡ d ++ t → new ≡ x ++ u →
    new ≡ old ++ (p ++ q ++ r ++ s ++ t ++ u)
in_six old p q r s t u e f g h i j = in_two old (p ++ q ++ r ++ s ++ t) u (in_five old p q r s t e f g h i) j

-- the name of a file that has one
pub file_written : {a b new : List ℕ} (old name : List ℕ) → (length name == 0) ≡ false → a ≡ old ++ codes " --> " → b ≡ a ++ name → new ≡ b ++ 10 ∷ [] → new ≡ old ++ file_text name
file_written old [] some e f g = cc
file_written old (x ∷ name) some e f g = in_three old (codes " --> ") (x ∷ name) (10 ∷ []) e f g

pub short_written : {a new : List ℕ} (old name : List ℕ) → (length name == 0) ≡ false → a ≡ old ++ name → new ≡ a ++ codes ": " → new ≡ old ++ short_file name
short_written old [] some e f = cc
short_written old (x ∷ name) some e f = in_two old (x ∷ name) (codes ": ") e f

-- an excerpt
pub excerpt_written : {a b new : List ℕ} (old name label : List ℕ) (e : Excerpt) (number : List ℕ) (width : ℕ) → number ≡ padded width e.spot.line →
    a ≡ old ++ arrow_text (replicate width 32) name e.spot → b ≡ a ++ line_text number e.line →
    new ≡ b ++ marks_text (replicate width 32) e.caret e.marks label → new ≡ old ++ excerpt_text width name e label
excerpt_written {a} {b} old name label e number width number_is f g h =
    in_three old (arrow_text (replicate width 32) name e.spot) (line_text (padded width e.spot.line) e.line) (marks_text (replicate width 32) e.caret e.marks label)
    f (g ∙ ap (λ n. a ++ line_text n e.line) number_is) h
