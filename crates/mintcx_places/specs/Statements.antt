-- Statements of a netlist, counted from 1 as its reader does.
use Rattle.std.specs.Prelude.{◌≡◌, ℕ, zero, suc, ◌+◌, ◌⊎◌, List, [], ◌∷◌}
use Rattle.mintc_vlex.specs.declared.token_list.Token.{Token}
use Rattle.mintc_vlex.specs.Tokens.{tokens_of}
use Rattle.mintc_vlex.specs.Statements.{behind_statement, first_statement}
use Rattle.mintcx_places.specs.declared.lines.Range.{Range}

-- what is left of tokens behind so many statements
abbrev pub behind_statements : List ℕ → ℕ → List Token → List Token
behind_statements text zero ts = ts
behind_statements text (suc n) [] = []
behind_statements text (suc n) (t ∷ ts) = behind_statements text n (behind_statement text t ts)

-- where the last of tokens ends, and the place where none is left
abbrev pub end_of : ℕ → List Token → ℕ
end_of at [] = at
end_of at (t ∷ ts) = end_of t.to ts

-- The statement behind so many others stands at a range: its first token begins it, and its last token ends it.
pub record IsBehind (text : List ℕ) (before : ℕ) (range : Range) : Type 0 where
  pub first : Token
  pub more : List Token
  pub whole : behind_statements text before (tokens_of text) ≡ first ∷ more
  pub from : range.from ≡ first.from
  pub to : range.to ≡ end_of first.to (first_statement text first more)

-- the statement of a number stands at a range
abbrev pub IsStatement : List ℕ → ℕ → Range → Type 0
IsStatement text number range = (before : ℕ) × (number ≡ before + 1) × IsBehind text before range

-- no statement has the number: it is 0, or no token is left behind those before
abbrev pub HasNoStatement : List ℕ → ℕ → Type 0
HasNoStatement text number =
    (number ≡ 0) ⊎ ((before : ℕ) × (number ≡ before + 1) × (behind_statements text before (tokens_of text) ≡ []))
