-- What is written in parts.
use Rattle.std.proofs.Common.{◌≡◌, List, [], ◌∷◌, ℕ, ◌++◌, append_assoc, append-nil, ap, ◌∙◌, sym}
use Rattle.std.proofs.lemmas.List.Concat.{flat_map-append}
use Rattle.mintc_text.specs.Lines.{ended, text_of}

pub appended : (old begun new first second : List ℕ) → begun ≡ old ++ first → new ≡ begun ++ second → new ≡ old ++ (first ++ second)
appended old begun new first second e f = f ∙ ap (λ v. v ++ second) e ∙ append_assoc old first second

-- a claim: its kind, a name, what it says, and by how much
pub claimed : (old a b new kind name says rest : List ℕ) → a ≡ old ++ kind → b ≡ a ++ name → new ≡ b ++ (says ++ rest) → new ≡ old ++ ((kind ++ name ++ says) ++ rest)
claimed old a b new kind name says rest e f g = rw (g, f, e) (simp append_assoc)

-- a line of two parts
pub line_of_two : {a b new : List ℕ} (old first second : List ℕ) → a ≡ old ++ first → b ≡ a ++ second → new ≡ b ++ 10 ∷ [] → new ≡ old ++ ended (first ++ second)
line_of_two old first second e f g = rw (g, f, e) (simp append_assoc)

-- two lines, the second one of two parts
pub line_and_two : (old a b c d new first second third : List ℕ) → a ≡ old ++ first → b ≡ a ++ 10 ∷ [] → c ≡ b ++ second → d ≡ c ++ third →
    new ≡ d ++ 10 ∷ [] → new ≡ old ++ text_of (first ∷ (second ++ third) ∷ [])
line_and_two old a b c d new first second third e f g h i = rw (i, h, g, f, e) (simp append_assoc)

-- a name and a word, and what stands behind them
pub named_and : (old begun new name word rest : List ℕ) → begun ≡ old ++ name → new ≡ begun ++ (word ++ rest) → new ≡ old ++ ((name ++ word) ++ rest)
named_and old begun new name word rest e f = rw (f, e) (simp append_assoc)

-- one line of two parts, each with a name in it
pub raced : (old a b d f g h new word name behind second other end : List ℕ) → a ≡ old ++ word → b ≡ a ++ name → d ≡ b ++ behind → f ≡ d ++ second → g ≡ f ++ other →
    h ≡ g ++ end → new ≡ h ++ 10 ∷ [] → new ≡ old ++ text_of (((word ++ name ++ behind) ++ (second ++ other ++ end)) ∷ [])
raced old a b d f g h new word name behind second other end i j k l m n o = rw (o, n, m, l, k, j, i) (simp append_assoc)

-- a line of two parts, and further lines
pub line_and_rest : (old a b new first said : List ℕ) (rest : List (List ℕ)) → a ≡ old ++ first → b ≡ a ++ (said ++ 10 ∷ []) → new ≡ b ++ text_of rest →
    new ≡ old ++ text_of ((first ++ said) ∷ rest)
line_and_rest old a b new first said rest e f g = rw (g, f, e) (simp append_assoc)

-- what is written in five steps, and in six
pub in_five : {a b c d new : List ℕ} (old p q r s t : List ℕ) → a ≡ old ++ p → b ≡ a ++ q → c ≡ b ++ r → d ≡ c ++ s → new ≡ d ++ t → new ≡ old ++ (p ++ q ++ r ++ s ++ t)
in_five old p q r s t e f g h i = rw (i, h, g, f, e) (simp append_assoc)

pub in_six : {a b c d x new : List ℕ} (old p q r s t u : List ℕ) → a ≡ old ++ p → b ≡ a ++ q → c ≡ b ++ r → d ≡ c ++ s → x ≡ d ++ t → new ≡ x ++ u →
    new ≡ old ++ (p ++ q ++ r ++ s ++ t ++ u)
in_six old p q r s t u e f g h i j = rw (j, i, h, g, f, e) (simp append_assoc)

-- what a bound asks for: two points and how far they are to be apart
pub asked_written : {a b c d x y new : List ℕ} (old word from to point asked less : List ℕ) → a ≡ old ++ word → b ≡ a ++ from → c ≡ b ++ to → d ≡ c ++ point →
    x ≡ d ++ asked → y ≡ x ++ less → new ≡ y ++ 10 ∷ [] → new ≡ old ++ (((word ++ from ++ (to ++ point ++ asked)) ++ less) ++ 10 ∷ [])
asked_written old word from to point asked less e f g h i j k = rw (k, j, i, h, g, f, e) (simp append_assoc)

-- a pair of a loop: words, a name with a word and a time behind it, and more
pub lapped : {a b c d new : List ℕ} (old first name word time more : List ℕ) → a ≡ old ++ first → b ≡ a ++ name → c ≡ b ++ (word ++ time) → d ≡ c ++ more →
    new ≡ d ++ 10 ∷ [] → new ≡ old ++ ((first ++ ((name ++ word) ++ time) ++ more) ++ 10 ∷ [])
lapped old first name word time more e f g h i = rw (i, h, g, f, e) (simp append_assoc)

-- two lines, and two of which the first has two parts
pub two_in_turn : {a new : List ℕ} (old first second : List ℕ) → a ≡ old ++ (first ++ 10 ∷ []) → new ≡ a ++ (second ++ 10 ∷ []) →
    new ≡ old ++ text_of (first ∷ second ∷ [])
two_in_turn old first second e f = rw (f, e) (simp append_assoc)

pub line_of_two_then : {a b new : List ℕ} (old first said second : List ℕ) → a ≡ old ++ first → b ≡ a ++ (said ++ 10 ∷ []) → new ≡ b ++ (second ++ 10 ∷ []) →
    new ≡ old ++ text_of ((first ++ said) ∷ second ∷ [])
line_of_two_then old first said second e f g = rw (g, f, e) (simp append_assoc)

-- lines, and one line more
text_more : (lines : List (List ℕ)) (last : List ℕ) → text_of (lines ++ last ∷ []) ≡ text_of lines ++ (last ++ 10 ∷ [])
text_more lines last = flat_map-append ended lines (last ∷ []) ∙ ap (λ v. text_of lines ++ v) (append-nil (last ++ 10 ∷ []))

-- a line, lines, and one line more
pub looped : {a b new : List ℕ} (old first last : List ℕ) (laps : List (List ℕ)) → a ≡ old ++ (first ++ 10 ∷ []) → b ≡ a ++ text_of laps → new ≡ b ++ (last ++ 10 ∷ []) →
    new ≡ old ++ text_of (first ∷ laps ++ last ∷ [])
looped {new = new} old first last laps e f g =
    let whole : new ≡ old ++ ((first ++ 10 ∷ []) ++ (text_of laps ++ (last ++ 10 ∷ []))) = rw (g, f, e) (simp append_assoc) in
    whole ∙ ap (λ v. old ++ ((first ++ 10 ∷ []) ++ v)) (sym (text_more laps last))

-- the text of a fail: its head, a line, what is broken, and its foot, with an empty line between two
pub fail_written : {empty a b c d x y new : List ℕ} (feed head count broken foot : List ℕ) → empty ≡ [] → a ≡ empty ++ head → b ≡ a ++ feed → c ≡ b ++ count → d ≡ c ++ feed →
    x ≡ d ++ broken → y ≡ x ++ feed → new ≡ y ++ foot → new ≡ head ++ feed ++ count ++ feed ++ broken ++ feed ++ foot
fail_written feed head count broken foot e f g h i j k l = rw (l, k, j, i, h, g, f, e) (simp append_assoc)

-- the text of a pass: its head, the phases, what the rooms are, their table with what is left out, and its foot
pub pass_written : {empty a b c d x y z new : List ℕ} (feed head phases said table more foot : List ℕ) → empty ≡ [] → a ≡ empty ++ head → b ≡ a ++ feed → c ≡ b ++ phases →
    d ≡ c ++ (feed ++ said ++ (feed ++ feed)) → x ≡ d ++ table → y ≡ x ++ more → z ≡ y ++ feed → new ≡ z ++ foot →
    new ≡ head ++ feed ++ phases ++ feed ++ (said ++ feed) ++ feed ++ table ++ more ++ feed ++ foot
pass_written feed head phases said table more foot e f g h i j k l m = rw (m, l, k, j, i, h, g, f, e) (simp append_assoc)
