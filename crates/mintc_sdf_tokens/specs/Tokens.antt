-- The tokens of a delay text (SDF, IEEE Std 1497).
use Rattle.std.specs.Prelude.{ℕ, suc, ◌+◌, Bool, false, ◌||◌, ◌==◌, if◌then◌else◌, List, [], ◌∷◌, length, take, drop}
use Rattle.std.specs.Prelude.{slice_index, Option, Some, None}
use Rattle.mintc_text.specs.Signs.{backslash, close_parenthesis, open_parenthesis, quote, slash}
use Rattle.mintc_text_scan.specs.Bytes.{is_white, string_size, comment_size}
use Rattle.mintc_text_scan.specs.Pieces.{Piece, passed, token, tokens_from}

-- A parenthesis, a word, a string between its quotes, or the rest of a text in which a string isn't closed.
pub data Token : Type 0 where
  opening : Token
  closing : Token
  word : List ℕ → Token
  string : List ℕ → Token
  bad : Token

-- what no word goes on with: white space, a parenthesis, a quote
abbrev pub ends_word : ℕ → Bool
ends_word b = is_white b || (b == open_parenthesis) || (b == close_parenthesis) || (b == quote)

-- How many bytes a word has at the front. A backslash takes the next byte with it: `kept` says that one stands before.
abbrev pub word_size : Bool → List ℕ → ℕ
word_size kept [] = 0
word_size kept (b ∷ bs) =
    if kept then suc (word_size false bs)
    else (if ends_word b then 0 else suc (word_size (b == backslash) bs))

-- the word at the front
abbrev pub word_piece : List ℕ → Piece Token
word_piece bs = token (word (take (word_size false bs) bs)) (word_size false bs)

-- behind the quote that opens a string
abbrev pub string_piece : List ℕ → Option ℕ → Piece Token
string_piece bs (Some n) = token (string (take n bs)) (n + 2)
string_piece bs None = token bad (length bs + 1)

-- comments are passed over; `/*` without an end begins a word
abbrev pub comment_piece : List ℕ → Option ℕ → Piece Token
comment_piece bs (Some end) = passed end
comment_piece bs None = word_piece bs

-- what a slash begins: a comment, or a word
abbrev pub slash_piece : List ℕ → Piece Token
slash_piece bs = comment_piece bs (comment_size bs)

-- The piece at the front of a text that isn't empty, by its first byte.
unfoldable pub piece_of : List ℕ → Piece Token
piece_of bs =
    let b = slice_index bs 0 in
    if is_white b then passed 1
    else (if b == open_parenthesis then token opening 1
    else (if b == close_parenthesis then token closing 1
    else (if b == quote then string_piece (drop 1 bs) (string_size false 0 (drop 1 bs))
    else (if b == slash then slash_piece bs
    else word_piece bs))))

-- the tokens of a text
abbrev pub tokens_of : List ℕ → List Token
tokens_of text = tokens_from piece_of 0 text
