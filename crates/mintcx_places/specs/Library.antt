-- Statements directly in a Liberty library, counted from 1 as its reader does.
use Rattle.std.specs.Prelude.{◌≡◌, ℕ, ◌+◌, ◌⊎◌, List, [], ◌∷◌, Option, Some, None, drop, length}
use Rattle.std.specs.Option.{option_and_then}
use Rattle.mintc_liberty_tokens.specs.Tokens.{Token, right, is_item, tokens_of, word_at, past, after_opening}
use Rattle.mintc_liberty_tokens.specs.Tokens.{after_closing, after_left}
use Rattle.mintc_liberty_tokens.specs.Reading.{statement_rest}
use Rattle.mintcx_places.specs.declared.lines.Range.{Range}
use Rattle.mintcx_places.specs.declared.library.TheConstants.{MOST_OPEN}
use Rattle.mintcx_places.specs.Turns.{after_turns}

-- what stands behind `( item ) {`
abbrev pub behind_name : List Token → Option (List Token)
behind_name ts = option_and_then after_left
    (option_and_then after_closing (option_and_then (past is_item) (after_opening ts)))

-- what stands behind `WORD ( item ) {`, with which a library begins
abbrev pub behind_head : List Token → Option (List Token)
behind_head ts = option_and_then (λ p. behind_name p.1) (word_at ts)

-- what is left of tokens behind so many statements
abbrev pub behind_statements : ℕ → List Token → Option (List Token)
behind_statements count ts = after_turns (statement_rest MOST_OPEN) count ts

-- what is left of a text behind so many statements of its library
abbrev pub left_behind : List ℕ → ℕ → Option (List Token)
left_behind text before = option_and_then (behind_statements before) (behind_head (tokens_of text))

-- what is left where a token comes that doesn't close the library
abbrev pub more : List Token → Option (List Token)
more [] = None
more (right ∷ ts) = None
more (t ∷ ts) = Some (t ∷ ts)

-- The end of a range is that of a statement, given the tokens from its first one on: what is left behind the statement
-- begins there; or the statement is out of form, and the text ends there.
abbrev pub EndsStatement : List ℕ → List Token → Range → Type 0
EndsStatement text ts range =
    (statement_rest MOST_OPEN ts ≡ Some (tokens_of (drop range.to text)))
    ⊎ ((statement_rest MOST_OPEN ts ≡ None) × (range.to ≡ length text))

-- The statement behind so many others stands at a range: the tokens from its first byte on are those that are left
-- behind the others.
pub record IsBehindStatements (text : List ℕ) (before : ℕ) (range : Range) : Type 0 where
  pub left : option_and_then more (left_behind text before) ≡ Some (tokens_of (drop range.from text))
  pub to : EndsStatement text (tokens_of (drop range.from text)) range

-- the statement of a number stands at a range
abbrev pub IsLibraryStatement : List ℕ → ℕ → Range → Type 0
IsLibraryStatement text number range = (before : ℕ) × (number ≡ before + 1) × IsBehindStatements text before range

-- no statement has the number: it is 0, or behind those before nothing is left, or the library's end
abbrev pub HasNoLibraryStatement : List ℕ → ℕ → Type 0
HasNoLibraryStatement text number =
    (number ≡ 0) ⊎ ((before : ℕ) × (number ≡ before + 1) × (option_and_then more (left_behind text before) ≡ None))
