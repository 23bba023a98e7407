-- What is written in parts: each part stands behind what is written before it.
use Rattle.std.proofs.Common.{◌≡◌, List, [], ◌∷◌, ℕ, ◌++◌, map, append_assoc, append-nil, ap, ◌∙◌, sym}
use Rattle.std.proofs.lemmas.Grind.{flat_map-append}
use Rattle.std.proofs.lemmas.List.{map-append}
use Rattle.mintc_text.specs.Lines.{ended, spaced, text_of, words}
use Rattle.mintc_text.proofs.SharedLinesLaws.{line-spaced, spaced-append}

-- two parts
pub in_two : (old a new p q : List ℕ) → a ≡ old ++ p → new ≡ a ++ q → new ≡ old ++ (p ++ q)
in_two old a new p q e f = f ∙ ap (λ (v : List ℕ). v ++ q) e ∙ append_assoc old p q

-- a word after its space
pub one_word : (old a new word : List ℕ) → a ≡ old ++ 32 ∷ [] → new ≡ a ++ word → new ≡ old ++ spaced (word ∷ [])
one_word old a new word e f = in_two old a new (32 ∷ []) word e f ∙ ap (λ (v : List ℕ). old ++ 32 ∷ v) (sym (append-nil word))

-- a word in two parts after its space
pub joined_word : (old a b new p q : List ℕ) → a ≡ old ++ 32 ∷ [] → b ≡ a ++ p → new ≡ b ++ q → new ≡ old ++ spaced ((p ++ q) ∷ [])
joined_word old a b new p q e f g = one_word old a new (p ++ q) e (in_two a b new p q f g)

-- words, and more words
pub more_words : (old a new : List ℕ) (ws xs : List (List ℕ)) → a ≡ old ++ spaced ws → new ≡ a ++ spaced xs → new ≡ old ++ spaced (ws ++ xs)
more_words old a new ws xs e f = in_two old a new (spaced ws) (spaced xs) e f ∙ ap (λ (v : List ℕ). old ++ v) (sym (spaced-append ws xs))

-- a line: its first word, others, and its line feed
pub line_of_one : (old a b new first : List ℕ) (ws : List (List ℕ)) → a ≡ old ++ first → b ≡ a ++ spaced ws → new ≡ b ++ 10 ∷ [] →
    new ≡ old ++ ended (words (first ∷ ws))
line_of_one old a b new first ws e f g = line-spaced old a b new first ws e f g

-- a line with the others in three parts
pub line_of_three : (old a b c d new first : List ℕ) (ws xs ys : List (List ℕ)) → a ≡ old ++ first → b ≡ a ++ spaced ws → c ≡ b ++ spaced xs →
    d ≡ c ++ spaced ys → new ≡ d ++ 10 ∷ [] → new ≡ old ++ ended (words (first ∷ (ws ++ (xs ++ ys))))
line_of_three old a b c d new first ws xs ys e f g h i =
    line-spaced old a d new first (ws ++ (xs ++ ys)) e (more_words a b d ws (xs ++ ys) f (more_words b c d xs ys g h)) i

-- one line is a text
pub one_line : (old new line : List ℕ) → new ≡ old ++ ended line → new ≡ old ++ text_of (line ∷ [])
one_line old new line e = e ∙ ap (λ (v : List ℕ). old ++ v) (sym (append-nil (ended line)))

-- lines, and more lines
pub more_lines : (old a new : List ℕ) (lines more : List (List ℕ)) → a ≡ old ++ text_of lines → new ≡ a ++ text_of more → new ≡ old ++ text_of (lines ++ more)
more_lines old a new lines more e f =
    in_two old a new (text_of lines) (text_of more) e f ∙ ap (λ (v : List ℕ). old ++ v) (sym (flat_map-append ended lines more))

-- a first line, and the line of one item more
pub item_more : {X : Type 0} (line : X → List ℕ) (old a new first : List ℕ) (xs : List X) (x : X) → a ≡ old ++ text_of (first ∷ map line xs) → new ≡ a ++ ended (line x) →
    new ≡ old ++ text_of (first ∷ map line (xs ++ x ∷ []))
item_more line old a new first xs x e f =
    more_lines old a new (first ∷ map line xs) (line x ∷ []) e (one_line a new (line x) f)
    ∙ ap (λ (v : List (List ℕ)). old ++ text_of (first ∷ v)) (sym (map-append line xs (x ∷ [])))

-- a whole text: its first line, two lists of lines, a line, two more lists, and its last line
pub whole : (old a b c d e f new first inner last : List ℕ) (p q r s : List (List ℕ)) → a ≡ old ++ ended first → b ≡ a ++ text_of p → c ≡ b ++ text_of q →
    d ≡ c ++ ended inner → e ≡ d ++ text_of r → f ≡ e ++ text_of s → new ≡ f ++ ended last →
    new ≡ old ++ text_of (first ∷ (p ++ (q ++ (inner ∷ (r ++ (s ++ last ∷ []))))))
whole old a b c d e f new first inner last p q r s begun ps qs one rs ss done =
    let ending = more_lines e f new s (last ∷ []) ss (one_line f new last done) in
    let arcs = more_lines d e new r (s ++ last ∷ []) rs ending in
    let inners = more_lines c d new (inner ∷ []) (r ++ (s ++ last ∷ [])) (one_line c d inner one) arcs in
    let elements = more_lines b c new q (inner ∷ (r ++ (s ++ last ∷ []))) qs inners in
    let phases = more_lines a b new p (q ++ (inner ∷ (r ++ (s ++ last ∷ [])))) ps elements in
    more_lines old a new (first ∷ []) (p ++ (q ++ (inner ∷ (r ++ (s ++ last ∷ []))))) (one_line old a first begun) phases
