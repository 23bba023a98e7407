-- The words of a text.
use Rattle.std.specs.Prelude.{ℕ, Bool, true, false, not, if◌then◌else◌, List, [], ◌∷◌, ◌++◌, bytes_eq}
use Rattle.std.specs.List.{list_any}
use Rattle.mintc_text_scan.specs.Bytes.{is_white}
use Rattle.mintc_senses_expressions.specs.Symbols.{is_word_byte}
use Rattle.mintc_senses.specs.declared.words.Cut.{Cut}
use Rattle.mintc_senses.specs.declared.words.Cut.TheVariants as cut

-- whether a byte belongs to a word: where a text is cut at white space, or at all that is no word of an expression
abbrev pub is_inside : Cut → ℕ → Bool
is_inside cut.White b = not (is_white b)
is_inside cut.Expression b = is_word_byte b

-- a word, if it has begun, before others
abbrev pub word_before : List ℕ → List (List ℕ) → List (List ℕ)
word_before [] ws = ws
word_before (b ∷ w) ws = (b ∷ w) ∷ ws

-- the words of a text, where one has begun before it
abbrev pub words_after : Cut → List ℕ → List ℕ → List (List ℕ)
words_after k w [] = word_before w []
words_after k w (b ∷ bs) =
    if is_inside k b then words_after k (w ++ b ∷ []) bs
    else word_before w (words_after k [] bs)

-- the words of a text
abbrev pub words_of : Cut → List ℕ → List (List ℕ)
words_of k text = words_after k [] text

-- whether a word is this one, or whether it is another one
abbrev pub is_wanted : Bool → List ℕ → List ℕ → Bool
is_wanted same w v = if same then bytes_eq v w else not (bytes_eq v w)

-- whether one of some words is this one, or whether one is another one
abbrev pub is_wanted_among : Bool → List ℕ → List (List ℕ) → Bool
is_wanted_among same w ws = list_any (is_wanted same w) ws
