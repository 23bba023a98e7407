-- What is left of a statement.
use Rattle.std.specs.Prelude.{ℕ, if◌then◌else◌, List, [], ◌∷◌, Option, Some, None}
use Rattle.mintc_vlex.specs.declared.token_list.Token.{Token}
use Rattle.mintc_vlex.specs.Statements.{to_semicolon}
use Rattle.mintc_vlex.specs.Tokens.{tokens_behind}
use Rattle.mintc_verilog_expressions.specs.declared.reader.Ahead.{Ahead}

-- what stands behind the next token in its statement
abbrev pub behind : List ℕ → Ahead → List Token
behind text a = if a.last then [] else to_semicolon text (tokens_behind text a.token.to)

-- the tokens that are left, where that one comes next
abbrev pub left_of : List ℕ → Option Ahead → List Token
left_of text None = []
left_of text (Some a) = a.token ∷ behind text a
