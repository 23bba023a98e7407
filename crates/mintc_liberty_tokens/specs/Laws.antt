-- How the statements that are read are written.
use Rattle.std.specs.Prelude.{◌≡◌, ℕ, ◌≤◌, List, ◌∷◌, ◌++◌}
use Rattle.mintc_liberty_tokens.specs.Tokens.{Token, right}
use Rattle.mintc_liberty_tokens.specs.Statements.{Statements, Front, front, Writes, depth}

-- The statements at the front of tokens are written there, and groups nest no deeper in them.
pub record IsWritten (room : ℕ) (ts : List Token) (f : Front) : Type 0 where
  pub here : List Token
  pub whole : ts ≡ here ++ f.after
  pub writes : Writes f.statements here
  pub shallow : depth f.statements ≤ room

-- Tokens are the statements at their front, as these are written, and what stands behind them.
abbrev pub AreWritten : Type 0
AreWritten = (room : ℕ) (ts : List Token) → IsWritten room ts (front room ts)

-- Statements that are written before a `}` are read back.
abbrev pub AreReadBack : Type 0
AreReadBack = (room : ℕ) (is : Statements) (here rest : List Token) → Writes is here → depth is ≤ room →
    front room (here ++ right ∷ rest) ≡ record { statements = is; after = right ∷ rest }
