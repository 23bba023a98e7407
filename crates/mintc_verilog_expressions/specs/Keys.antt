-- Reserved words and directions: functions on lexemes, which give what is said and what is left.
use Rattle.std.specs.Prelude.{ℕ, Bool, true, false, if◌then◌else◌, List, [], ◌∷◌, codes, bytes_eq, Option, Some, None}
use Rattle.mintc_verilog_expressions.specs.Lexemes.{Lexeme, key}
use Rattle.mintc_verilog_expressions.specs.Reading.{Read}

-- the lexeme is this reserved word
abbrev pub is_key : List ℕ → Lexeme → Bool
is_key w (key k) = bytes_eq k w
is_key w _ = false

-- what is left behind a reserved word
abbrev pub eat_key : List ℕ → List Lexeme → Option (List Lexeme)
eat_key w [] = None
eat_key w (l ∷ ls) = if is_key w l then Some ls else None

-- a direction
abbrev pub direction_from : Option (List Lexeme) → Option (List Lexeme) → Option (Bool × List Lexeme)
direction_from (Some rest) input = Some (true, rest)
direction_from None (Some rest) = Some (false, rest)
direction_from None None = None

-- `output`, which is true, or `input`
abbrev pub direction_at : Read Bool
direction_at ls = direction_from (eat_key (codes "output") ls) (eat_key (codes "input") ls)
