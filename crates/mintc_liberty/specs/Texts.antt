-- A Liberty text: one group `library` with one item.
use Rattle.std.specs.Prelude.{ℕ, ◌+◌, Bool, true, false, if◌then◌else◌, List, [], ◌∷◌, Option, Some, None}
use Rattle.std.specs.Prelude.{option_and_then, Result, Ok, Err, codes, bytes_eq}
use Rattle.mintc_liberty_tokens.specs.Tokens.{Token, right, is_item, tokens_of, word_at, past, after_opening}
use Rattle.mintc_liberty_tokens.specs.Tokens.{after_closing, after_left}
use Rattle.mintc_liberty_tokens.specs.Statements.{Statements, Front, past_semicolon, count, front}

-- behind `library`: what stands behind `( item ) {`
abbrev pub behind_name : List Token → Option (List Token)
behind_name ts = option_and_then after_left
    (option_and_then after_closing (option_and_then (past is_item) (after_opening ts)))

-- What stands behind `library ( item ) {`.
abbrev pub behind_head : List Token → Option (List Token)
behind_head ts = option_and_then (λ p. if bytes_eq p.0 (codes "library") then behind_name p.1 else None) (word_at ts)

-- nothing is left
abbrev pub is_empty : List Token → Bool
is_empty [] = true
is_empty (t ∷ ts) = false

-- the library is closed, a `;` may follow, and nothing else
abbrev pub is_end : List Token → Bool
is_end (right ∷ ts) = is_empty (past_semicolon ts)
is_end _ = false

-- The statements directly in the library; or the number of the first that is out of form, or of one more than there
-- are.
abbrev pub whole : Front → Result Statements ℕ
whole f = if is_end f.after then Ok f.statements else Err (count f.statements + 1)

-- Groups nest 64 deep, the library among them.
abbrev pub within : Option (List Token) → Result Statements ℕ
within (Some ts) = whole (front 63 ts)
within None = Err 0

-- The library of a text, or the number of its Syntax.
abbrev pub library_of : List ℕ → Result Statements ℕ
library_of text = within (behind_head (tokens_of text))
