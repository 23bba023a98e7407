-- What stands at the front of tokens, and where a reader stands.
pub use Rattle.mintc_liberty_tokens.specs.Tokens.{word_at, past, after_opening, after_closing, after_left, after_right}
use Rattle.std.specs.Prelude.{ℕ, Bool, true, false, ◌==◌, if◌then◌else◌, List, [], ◌∷◌, Option, Some, None, option_map}
use Rattle.mintc_text.specs.Signs as ascii
use Rattle.mintc_liberty_tokens.specs.declared.reader.Kind.{Kind}
use Rattle.mintc_liberty_tokens.specs.declared.reader.Kind.TheVariants as kind
use Rattle.mintc_liberty_tokens.specs.Tokens.{Token, opening, closing, left, right, colon, semicolon, comma, word}
use Rattle.mintc_liberty_tokens.specs.Tokens.{string, bad, is_value, is_item, bytes_of}
use Rattle.mintc_liberty_tokens.specs.Statements.{Step, taken, left_over, called, statement_by, front}

-- the kind of what comes next: at an open string it is a text too
abbrev pub kind_of : List Token → Kind
kind_of [] = kind.End
kind_of (opening ∷ ts) = kind.Opening
kind_of (closing ∷ ts) = kind.Closing
kind_of (left ∷ ts) = kind.Left
kind_of (right ∷ ts) = kind.Right
kind_of (colon ∷ ts) = kind.Colon
kind_of (semicolon ∷ ts) = kind.Semicolon
kind_of (comma ∷ ts) = kind.Comma
kind_of (word w ∷ ts) = kind.Word
kind_of (string s ∷ ts) = kind.Text
kind_of (bad ∷ ts) = kind.Text

-- the same by the first byte of a text that begins with a token
abbrev pub kind_by : List ℕ → Kind
kind_by [] = kind.End
kind_by (b ∷ bs) =
    if b == ascii.open_parenthesis then kind.Opening
    else (if b == ascii.close_parenthesis then kind.Closing
    else (if b == ascii.open_brace then kind.Left
    else (if b == ascii.close_brace then kind.Right
    else (if b == ascii.colon then kind.Colon
    else (if b == ascii.semicolon then kind.Semicolon
    else (if b == ascii.comma then kind.Comma
    else (if b == ascii.quote then kind.Text
    else kind.Word)))))))

-- the token of a kind with these bytes
abbrev pub token_of : Kind → List ℕ → Token
token_of kind.Opening w = opening
token_of kind.Closing w = closing
token_of kind.Left w = left
token_of kind.Right w = right
token_of kind.Colon w = colon
token_of kind.Semicolon w = semicolon
token_of kind.Comma w = comma
token_of kind.Word w = word w
token_of kind.Text w = string w
token_of kind.End w = bad

-- the seven signs
abbrev pub is_sign_kind : Kind → Bool
is_sign_kind kind.Word = false
is_sign_kind kind.Text = false
is_sign_kind kind.End = false
is_sign_kind _ = true

-- a string and what follows it
abbrev pub string_at : List Token → Option (List ℕ × List Token)
string_at (string s ∷ ts) = Some (s, ts)
string_at _ = None

-- what the word or string at the front stands for
abbrev pub name_at : List Token → Option (List ℕ)
name_at (word w ∷ ts) = Some w
name_at (string s ∷ ts) = Some s
name_at _ = None

-- the bytes of the token of a value at the front, and the tokens behind it
abbrev pub value_at : List Token → Option (List ℕ × List Token)
value_at [] = None
value_at (t ∷ ts) = if is_value t then Some (bytes_of t, ts) else None

-- behind `WORD :`, what is left behind the value and its `;`
abbrev pub past_value : List Token → List Token → Option (List Token)
past_value (t ∷ ts) (semicolon ∷ rest) = Some rest
past_value _ _ = None

-- what is left behind the value and its `;`
abbrev pub value_rest : List Token → Option (List Token)
value_rest ts = past_value (taken is_value ts) (left_over is_value ts)

-- behind items their parenthesis
abbrev pub items_rest : List Token → Option (List Token)
items_rest ts = after_closing (left_over is_item ts)

-- behind `{`, what is left behind the statements and their `}`
abbrev pub group_rest : ℕ → List Token → Option (List Token)
group_rest room ts = after_right (front room ts).after

-- what is left behind one statement
abbrev pub step_rest : Option Step → Option (List Token)
step_rest o = option_map (λ s. s.1) o

-- what is left behind the statement at the front, where groups nest so deep at most
abbrev pub statement_rest : ℕ → List Token → Option (List Token)
statement_rest room ts = step_rest (statement_by front room ts)

-- what follows a `;`
abbrev pub after_semicolon : List Token → Option (List Token)
after_semicolon (semicolon ∷ ts) = Some ts
after_semicolon _ = None

-- behind `WORD (`, what is left behind a group or a statement of the second form
abbrev pub called_rest : ℕ → List Token → Option (List Token)
called_rest room ts = step_rest (called front room [] [] ts)

-- behind `WORD (`, what is left behind the items and the rest of the statement
abbrev pub call_rest : ℕ → List Token → Option (List Token)
call_rest room ts = called_rest room (left_over is_item ts)
