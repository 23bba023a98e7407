-- Entries of delays, counted from 1 as their reader does: headers and cells alike.
use Rattle.std.specs.Prelude.{◌≡◌, ℕ, ◌+◌, ◌⊎◌, List, ◌∷◌, Option, Some, None, drop}
use Rattle.std.specs.Option.{option_and_then}
use Rattle.mintc_sdf_tokens.specs.Tokens.{Token, opening, closing, tokens_of}
use Rattle.mintc_sdf_tokens.specs.Items.{after}
use Rattle.mintc_sdf_tokens.specs.Reading.{after_opening, after_closing, word_at}
use Rattle.mintcx_places.specs.declared.lines.Range.{Range}
use Rattle.mintcx_places.specs.Lines.{IsRest}
use Rattle.mintcx_places.specs.Turns.{after_turns}

-- what is left behind the parenthesis and the word that delays begin with
abbrev pub behind_head : List Token → Option (List Token)
behind_head ts = option_and_then (λ first. option_and_then (λ p. Some p.1) (word_at first)) (after_opening ts)

-- what is left of tokens behind the list in parentheses that comes next, and None where no whole list does
abbrev pub behind_entry : List Token → Option (List Token)
behind_entry ts = option_and_then (λ inner. after_closing (after inner)) (after_opening ts)

-- what is left of tokens behind so many entries
abbrev pub behind_entries : ℕ → List Token → Option (List Token)
behind_entries count ts = after_turns behind_entry count ts

-- what is left of a text behind so many entries
abbrev pub left_behind : List ℕ → ℕ → Option (List Token)
left_behind text before = option_and_then (behind_entries before) (behind_head (tokens_of text))

-- A list in parentheses goes on up to the end of a range, given the tokens behind its first parenthesis: the last byte
-- is the parenthesis that closes it; or the list isn't closed, and the line ends there.
abbrev pub EndsList : List ℕ → List Token → Range → Type 0
EndsList text inner range =
    ((at : ℕ) × (rest : List Token) × (after_closing (after inner) ≡ Some rest)
    × (tokens_of (drop at text) ≡ closing ∷ rest) × (range.to ≡ at + 1))
    ⊎ ((after_closing (after inner) ≡ None) × IsRest text range)

-- A list in parentheses that comes next in some tokens of a text stands at a range: these are the tokens from its first
-- byte on.
pub record IsList (text : List ℕ) (left : List Token) (range : Range) : Type 0 where
  pub inner : List Token
  pub opened : left ≡ opening ∷ inner
  pub from : tokens_of (drop range.from text) ≡ left
  pub to : EndsList text inner range

-- The entry behind so many others stands at a range: it is the list that is left behind the others.
pub record IsBehindEntries (text : List ℕ) (before : ℕ) (range : Range) : Type 0 where
  pub left : List Token
  pub behind : left_behind text before ≡ Some left
  pub list : IsList text left range

-- the entry of a number stands at a range
abbrev pub IsEntry : List ℕ → ℕ → Range → Type 0
IsEntry text number range = (before : ℕ) × (number ≡ before + 1) × IsBehindEntries text before range

-- no entry has the number: it is 0, or no list is left behind those before
abbrev pub HasNoEntry : List ℕ → ℕ → Type 0
HasNoEntry text number =
    (number ≡ 0)
    ⊎ ((before : ℕ) × (number ≡ before + 1) × (option_and_then after_opening (left_behind text before) ≡ None))
