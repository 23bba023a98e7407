-- What stands behind a name, and a text of no token.
use Rattle.std.proofs.Common.{◌≡◌, ℕ, ◌-◌, List, [], None, refl, arith}
use Rattle.mintc_text_scan.specs.Pieces.{tokens_from}
use Rattle.mintc_liberty_tokens.specs.declared.reader.Kind.TheVariants as kind
use Rattle.mintc_liberty_tokens.specs.Tokens.{Token, after_left, tokens_of}
use Rattle.mintc_liberty_tokens.specs.Reading.{kind_of}
use Rattle.mintc_liberty_tokens.specs.Statements.{none, fronts, front}

-- a token that is no left brace
pub not-left : (ts : List Token) → (kind.Left ≡ kind_of ts → ⊥) → after_left ts ≡ None
not-left ts n = grind arith

-- no token, no statement
pub no-statements : (room : ℕ) → (front room (tokens_of [])).statements ≡ none
unfolding tokens_from fronts
no-statements room = refl
