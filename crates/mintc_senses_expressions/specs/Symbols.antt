-- The symbols of an expression's text: words and signs, with white space between them passed over.
use Rattle.std.specs.Prelude.{ℕ, Bool, ◌&&◌, ◌||◌, ◌==◌, if◌then◌else◌, List, [], ◌∷◌, ◌++◌, nat_le}
use Rattle.mintc_text_scan.specs.Bytes.{is_white}
use Rattle.mintc_senses_expressions.specs.declared.signs.Sign.{Sign}
use Rattle.mintc_senses_expressions.specs.declared.signs.Sign.TheVariants as kind

-- A word, which is a name or a constant, or a sign.
pub data Symbol : Type 0 where
  word : List ℕ → Symbol
  sign : Sign → Symbol

-- letters, digits, `_ . [ ]`
abbrev pub is_word_byte : ℕ → Bool
is_word_byte b =
    (nat_le 97 b && nat_le b 122) || (nat_le 65 b && nat_le b 90) || (nat_le 48 b && nat_le b 57) || (b == 95)
    || (b == 46) || (b == 91) || (b == 93)

-- the sign that a byte is: `( ) ! ' ^`, `*` or `&`, `+` or `|`, or one that no expression has
abbrev pub sign_of : ℕ → Sign
sign_of b =
    if b == 40 then kind.Opening
    else (if b == 41 then kind.Closing
    else (if b == 33 then kind.Inversion
    else (if b == 39 then kind.Prime
    else (if b == 94 then kind.Exclusive
    else (if (b == 42) || (b == 38) then kind.Conjunction
    else (if (b == 43) || (b == 124) then kind.Disjunction
    else kind.Other))))))

-- a word, if there is one, before some symbols
abbrev pub ended : List ℕ → List Symbol → List Symbol
ended [] ys = ys
ended (b ∷ w) ys = word (b ∷ w) ∷ ys

-- a byte that is in no word before some symbols
abbrev pub behind : ℕ → List Symbol → List Symbol
behind b ys = if is_white b then ys else sign (sign_of b) ∷ ys

-- the symbols of a text, where a word has begun before it
abbrev pub symbols_after : List ℕ → List ℕ → List Symbol
symbols_after w [] = ended w []
symbols_after w (b ∷ bs) =
    if is_word_byte b then symbols_after (w ++ b ∷ []) bs
    else ended w (behind b (symbols_after [] bs))

-- the symbols of a text
abbrev pub symbols_of : List ℕ → List Symbol
symbols_of text = symbols_after [] text
