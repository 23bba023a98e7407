-- What places mean.
use Rattle.std.specs.Prelude.{◌≡◌, ℕ, ◌-◌, List, ◌∷◌, ◌++◌, drop, length, take}
use Rattle.mintc_vlex.specs.declared.statement_list.Statement.{Statement}
use Rattle.mintc_vlex.specs.declared.token_list.Token.{Token}
use Rattle.mintc_vlex.specs.Statements.{statements_of}
use Rattle.mintc_vlex.specs.Tokens.{tokens_of}
use Rattle.mintcx_places.specs.declared.lines.Range.{Range}
use Rattle.mintcx_places.specs.Statements.{IsBehind, end_of}

-- A range is that of an entry in the list of all statements of a text, by the number of entries before it: it goes from
-- the first of the statement's tokens to the last.
pub record IsListed (text : List ℕ) (before : ℕ) (range : Range) : Type 0 where
  pub earlier : List Statement
  pub statement : Statement
  pub later : List Statement
  pub first : Token
  pub others : List Token
  pub whole : statements_of text (tokens_of text) ≡ earlier ++ statement ∷ later
  pub count : before ≡ length earlier
  pub tokens : take (statement.to - statement.from) (drop statement.from (tokens_of text)) ≡ first ∷ others
  pub from : range.from ≡ first.from
  pub to : range.to ≡ end_of first.to others

-- the statement behind so many others is that entry of the list of all statements
abbrev pub StatementsAreListed : Type 0
StatementsAreListed =
    (text : List ℕ) (before : ℕ) (range : Range) → IsBehind text before range → IsListed text before range
