-- What is written in parts: each part stands behind what is written before it.
use Rattle.std.proofs.Common.{◌≡◌, List, [], ◌∷◌, ℕ, ◌++◌, append_assoc, append-nil, ap, ◌∙◌, sym}
use Rattle.std.specs.Prelude.{flat_map}
use Rattle.std.proofs.lemmas.List.Concat.{flat_map-append}
use Rattle.mintc_text.specs.Lines.{ended, text_of}

-- two parts
pub in_two : (old a new p q : List ℕ) → a ≡ old ++ p → new ≡ a ++ q → new ≡ old ++ (p ++ q)
in_two old a new p q e f = f ∙ ap (λ (v : List ℕ). v ++ q) e ∙ append_assoc old p q

-- three parts
pub in_three : (old a b new p q r : List ℕ) → a ≡ old ++ p → b ≡ a ++ q → new ≡ b ++ r → new ≡ old ++ (p ++ q ++ r)
in_three old a b new p q r e f g = in_two old b new (p ++ q) r (in_two old a b p q e f) g

-- four parts
pub in_four : (old a b c new p q r s : List ℕ) → a ≡ old ++ p → b ≡ a ++ q → c ≡ b ++ r → new ≡ c ++ s → new ≡ old ++ (p ++ q ++ r ++ s)
in_four old a b c new p q r s e f g h = in_two old c new (p ++ q ++ r) s (in_three old a b c p q r e f g) h

-- five parts
pub in_five : (old a b c d new p q r s t : List ℕ) → a ≡ old ++ p → b ≡ a ++ q → c ≡ b ++ r → d ≡ c ++ s → new ≡ d ++ t → new ≡ old ++ (p ++ q ++ r ++ s ++ t)
in_five old a b c d new p q r s t e f g h i = in_two old d new (p ++ q ++ r ++ s) t (in_four old a b c d p q r s e f g h) i

-- one line is a text
pub one_line : (old new line : List ℕ) → new ≡ old ++ ended line → new ≡ old ++ text_of (line ∷ [])
one_line old new line e = e ∙ ap (λ (v : List ℕ). old ++ v) (sym (append-nil (ended line)))

-- lines, and more lines
pub more_lines : (old a new : List ℕ) (lines more : List (List ℕ)) → a ≡ old ++ text_of lines → new ≡ a ++ text_of more → new ≡ old ++ text_of (lines ++ more)
more_lines old a new lines more e f =
    in_two old a new (text_of lines) (text_of more) e f ∙ ap (λ (v : List ℕ). old ++ v) (sym (flat_map-append ended lines more))

-- lines, and one line more
pub last_line : (old a new : List ℕ) (lines : List (List ℕ)) (line : List ℕ) → a ≡ old ++ text_of lines → new ≡ a ++ ended line →
    new ≡ old ++ text_of (lines ++ line ∷ [])
last_line old a new lines line e f = more_lines old a new lines (line ∷ []) e (one_line a new line f)

-- two lines
pub two_lines : (old a new first second : List ℕ) → a ≡ old ++ ended first → new ≡ a ++ ended second → new ≡ old ++ text_of (first ∷ second ∷ [])
two_lines old a new first second e f = last_line old a new (first ∷ []) second (one_line old a first e) f

-- the lines of one item more
pub item_more : {X : Type 0} (f : X → List (List ℕ)) (old a new : List ℕ) (xs : List X) (x : X) → a ≡ old ++ text_of (flat_map f xs) → new ≡ a ++ text_of (f x) →
    new ≡ old ++ text_of (flat_map f (xs ++ x ∷ []))
item_more f old a new xs x e g =
    more_lines old a new (flat_map f xs) (f x) e g
    ∙ ap (λ (v : List (List ℕ)). old ++ text_of v) (ap (λ (v : List (List ℕ)). flat_map f xs ++ v) (sym (append-nil (f x))) ∙ sym (flat_map-append f xs (x ∷ [])))

-- a whole text: its first line, and four lists of lines
pub whole : (old a b c d new first : List ℕ) (p q r s : List (List ℕ)) → old ≡ [] → a ≡ old ++ ended first → b ≡ a ++ text_of p → c ≡ b ++ text_of q →
    d ≡ c ++ text_of r → new ≡ d ++ text_of s → new ≡ text_of (first ∷ (p ++ q ++ r ++ s))
whole old a b c d new first p q r s none e f g h i =
    let begun = more_lines old a b (first ∷ []) p (one_line old a first e) f in
    let third = more_lines old b c (first ∷ p) q begun g in
    let fourth = more_lines old c d (first ∷ (p ++ q)) r third h in
    more_lines old d new (first ∷ (p ++ q ++ r)) s fourth i ∙ ap (λ (v : List ℕ). v ++ text_of (first ∷ (p ++ q ++ r ++ s))) none
