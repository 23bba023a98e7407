-- The tokens of a Liberty text.
use Rattle.std.specs.Prelude.{ℕ, suc, ◌+◌, Bool, true, false, ◌&&◌, ◌||◌, ◌==◌, if◌then◌else◌, List, [], ◌∷◌, length}
use Rattle.std.specs.Prelude.{take, drop, slice_index, Option, Some, None}
use Rattle.mintc_text.specs.Signs as ascii
use Rattle.mintc_text_scan.specs.Bytes.{is_white, string_size, comment_size}
use Rattle.mintc_text_scan.specs.Pieces.{Piece, passed, token, tokens_from}

-- One of the seven signs `( ) { } : ; ,`; a word; a string between its quotes; or the rest of a text in which a
-- string isn't closed.
pub data Token : Type 0 where
  opening : Token
  closing : Token
  left : Token
  right : Token
  colon : Token
  semicolon : Token
  comma : Token
  word : List ℕ → Token
  string : List ℕ → Token
  bad : Token

-- the sign that a byte is
abbrev pub sign_of : ℕ → Option Token
sign_of b =
    if b == ascii.open_parenthesis then Some opening
    else (if b == ascii.close_parenthesis then Some closing
    else (if b == ascii.open_brace then Some left
    else (if b == ascii.close_brace then Some right
    else (if b == ascii.colon then Some colon
    else (if b == ascii.semicolon then Some semicolon
    else (if b == ascii.comma then Some comma
    else None))))))

-- a byte is one of the signs
abbrev pub is_sign : ℕ → Bool
is_sign b = (b == ascii.open_parenthesis) || (b == ascii.close_parenthesis) || (b == ascii.open_brace)
    || (b == ascii.close_brace) || (b == ascii.colon) || (b == ascii.semicolon) || (b == ascii.comma)

-- what no word goes on with: white space, a sign, a quote
abbrev pub ends_word : ℕ → Bool
ends_word b = is_white b || is_sign b || (b == ascii.quote)

-- a backslash before a line feed
abbrev pub is_joint : ℕ → List ℕ → Bool
is_joint b bs = (b == ascii.backslash) && (slice_index bs 0 == ascii.line_feed)

-- how many bytes a word has at the front
abbrev pub word_size : List ℕ → ℕ
word_size [] = 0
word_size (b ∷ bs) = if ends_word b || is_joint b bs then 0 else suc (word_size bs)

-- the word at the front
abbrev pub word_piece : List ℕ → Piece Token
word_piece bs = token (word (take (word_size bs) bs)) (word_size bs)

-- behind the quote that opens a string
abbrev pub string_piece : List ℕ → Option ℕ → Piece Token
string_piece bs (Some n) = token (string (take n bs)) (n + 2)
string_piece bs None = token bad (length bs + 1)

-- comments are passed over; `/*` without an end begins a word
abbrev pub comment_piece : List ℕ → Option ℕ → Piece Token
comment_piece bs (Some end) = passed end
comment_piece bs None = word_piece bs

-- what a slash begins: a comment, or a word
abbrev pub slash_piece : List ℕ → Piece Token
slash_piece bs = comment_piece bs (comment_size bs)

-- a backslash before a line feed is passed over, and begins a word else
abbrev pub backslash_piece : List ℕ → Piece Token
backslash_piece bs = if slice_index bs 1 == ascii.line_feed then passed 2 else word_piece bs

-- a sign, or what else begins with this byte
abbrev pub sign_piece : List ℕ → Option Token → Piece Token
sign_piece bs (Some t) = token t 1
sign_piece bs None = word_piece bs

-- The piece at the front of a text that isn't empty, by its first byte.
unfoldable pub piece_of : List ℕ → Piece Token
piece_of bs =
    let b = slice_index bs 0 in
    if is_white b then passed 1
    else (if b == ascii.quote then string_piece (drop 1 bs) (string_size false 0 (drop 1 bs))
    else (if b == ascii.slash then slash_piece bs
    else (if b == ascii.backslash then backslash_piece bs
    else sign_piece bs (sign_of b))))

-- the tokens of a text
abbrev pub tokens_of : List ℕ → List Token
tokens_of text = tokens_from piece_of 0 text

-- what a token stands for as a part of a value
abbrev pub bytes_of : Token → List ℕ
bytes_of opening = ascii.open_parenthesis ∷ []
bytes_of closing = ascii.close_parenthesis ∷ []
bytes_of left = ascii.open_brace ∷ []
bytes_of right = ascii.close_brace ∷ []
bytes_of colon = ascii.colon ∷ []
bytes_of semicolon = ascii.semicolon ∷ []
bytes_of comma = ascii.comma ∷ []
bytes_of (word w) = w
bytes_of (string s) = s
bytes_of bad = []

-- A value runs over all tokens but `;`, `{` and `}`.
abbrev pub is_value : Token → Bool
is_value left = false
is_value right = false
is_value semicolon = false
is_value bad = false
is_value _ = true

-- Items are all tokens but `( ) { } ;`.
abbrev pub is_item : Token → Bool
is_item colon = true
is_item comma = true
is_item (word w) = true
is_item (string s) = true
is_item _ = false

-- the names among items: commas and colons are none
abbrev pub names_in : List Token → List (List ℕ)
names_in [] = []
names_in (word w ∷ ts) = w ∷ names_in ts
names_in (string s ∷ ts) = s ∷ names_in ts
names_in (t ∷ ts) = names_in ts

-- What is left behind a word, a sign, or a token that passes a test, if that comes first.
abbrev pub word_at : List Token → Option (List ℕ × List Token)
word_at (word w ∷ ts) = Some (w, ts)
word_at _ = None

-- what follows a `(`
abbrev pub after_opening : List Token → Option (List Token)
after_opening (opening ∷ ts) = Some ts
after_opening _ = None

-- what follows a `)`
abbrev pub after_closing : List Token → Option (List Token)
after_closing (closing ∷ ts) = Some ts
after_closing _ = None

-- what follows a `{`
abbrev pub after_left : List Token → Option (List Token)
after_left (left ∷ ts) = Some ts
after_left _ = None

-- what follows a `}`
abbrev pub after_right : List Token → Option (List Token)
after_right (right ∷ ts) = Some ts
after_right _ = None

-- what follows a token that passes a test
abbrev pub past : (Token → Bool) → List Token → Option (List Token)
past test [] = None
past test (t ∷ ts) = if test t then Some ts else None
