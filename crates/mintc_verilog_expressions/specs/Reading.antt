-- Reading an expression from left to right: what the front of lexemes gives, and the lexemes that are left behind it.
-- What an expression is says `IsExpression` of Expressions; this is how one is found.
use Rattle.std.specs.Prelude.{◌≡◌, ℕ, zero, suc, ◌*◌, ◌&&◌, ◌==◌, nat_le, if◌then◌else◌, List, [], ◌∷◌, ◌++◌, length}
use Rattle.std.specs.Prelude.{Option, Some, None, option_map, option_and_then}
use Rattle.mintc_text.specs.Signs.{close_brace, close_bracket, colon, comma, open_brace, open_bracket}
use Rattle.mintc_text.specs.declared.limits.TheConstants.{MOST_WIDTH}
use Rattle.mintc_netlist.specs.declared.expression.Piece.{Piece}
use Rattle.mintc_netlist.specs.declared.expression.Piece.TheVariants as piece
use Rattle.mintc_verilog_expressions.specs.Lexemes.{Lexeme, name, number, sized, sign}
use Rattle.mintc_verilog_expressions.specs.Expressions.{repeated}

-- what reads a value at the front of lexemes, and gives what is left
abbrev pub Read : Type 0 → Type 0
Read A = List Lexeme → Option (A × List Lexeme)

-- what is left behind a sign
abbrev pub eat : ℕ → List Lexeme → Option (List Lexeme)
eat s [] = None
eat s (sign c ∷ ls) = if c == s then Some ls else None
eat s (_ ∷ ls) = None

-- a number
abbrev pub number_at : Read ℕ
number_at [] = None
number_at (number n ∷ ls) = Some (n, ls)
number_at (_ ∷ ls) = None

-- behind NAME[NUM: one bit, or the second number of a part
abbrev pub part_end : List ℕ → ℕ → ℕ × List Lexeme → Option (Piece × List Lexeme)
part_end n m l = option_map (λ rest. (piece.Part n m l.0, rest)) (eat close_bracket l.1)

-- behind NAME[NUM: one bit where a `]` follows, else a part
abbrev pub bit_or_part : List ℕ → ℕ → List Lexeme → Option (List Lexeme) → Option (Piece × List Lexeme)
bit_or_part n m ls (Some rest) = Some (piece.Bit n m, rest)
bit_or_part n m ls None = option_and_then (part_end n m) (option_and_then number_at (eat colon ls))

-- behind NAME: a bit or a part where a `[` follows, else the net
abbrev pub select_or_net : List ℕ → List Lexeme → Option (List Lexeme) → Option (Piece × List Lexeme)
select_or_net n ls (Some rest) = option_and_then (λ m. bit_or_part n m.0 m.1 (eat close_bracket m.1)) (number_at rest)
select_or_net n ls None = Some (piece.Net n, ls)

-- an expression without braces
abbrev pub plain_at : Read Piece
plain_at [] = None
plain_at (name n ∷ ls) = select_or_net n ls (eat open_bracket ls)
plain_at (sized w ∷ ls) = Some (piece.Constant w, ls)
plain_at (_ ∷ ls) = None

-- the pieces of an expression
abbrev pub Pieces : Type 0
Pieces = List Piece

-- pieces, where there aren't too many
abbrev pub limited : Pieces → List Lexeme → Option (Pieces × List Lexeme)
limited ps ls = if nat_le (length ps) MOST_WIDTH then Some (ps, ls) else None

-- expressions with commas; the number bounds the turns, and the count of the lexemes is always enough
abbrev pub join_items : Read Pieces → Pieces × List Lexeme → Option (List Lexeme) → Option (Pieces × List Lexeme)
join_items more p None = Some p
join_items more p (Some rest) = option_and_then (λ q. limited (p.0 ++ q.0) q.1) (more rest)

-- as many expressions as there are, with commas
unfoldable pub items : Read Pieces → ℕ → Read Pieces
items read zero ls = None
items read (suc n) ls = option_and_then (λ p. join_items (items read n) p (eat comma p.1)) (read ls)

-- behind a brace: a concatenation, or a repetition
abbrev pub concat_end : Pieces × List Lexeme → Option (Pieces × List Lexeme)
concat_end p = option_map (λ rest. (p.0, rest)) (eat close_brace p.1)

-- behind {NUM{EXPR, EXPR: both braces, and the pieces so many times
abbrev pub repeat_end : ℕ → Pieces × List Lexeme → Option (Pieces × List Lexeme)
repeat_end n p =
    if nat_le 1 n && nat_le (n * length p.0) MOST_WIDTH
    then option_map (λ rest. (repeated n p.0, rest)) (option_and_then (eat close_brace) (eat close_brace p.1))
    else None

-- behind a brace: a repetition where a number follows, else a concatenation
abbrev pub braces : Read Pieces → Read Pieces → List Lexeme → Option (ℕ × List Lexeme) → Option (Pieces × List Lexeme)
braces inner innermost ls None = option_and_then concat_end (inner ls)
braces inner innermost ls (Some n) = option_and_then (repeat_end n.0) (option_and_then innermost (eat open_brace n.1))

-- a piece as a list of one
abbrev pub one_piece : Option (Piece × List Lexeme) → Option (Pieces × List Lexeme)
one_piece r = option_map (λ p. (p.0 ∷ [], p.1)) r

-- braces where one is open, else an expression without
abbrev pub expression_with : Read Pieces → Read Pieces → List Lexeme → Option (List Lexeme) →
    Option (Pieces × List Lexeme)
expression_with inner innermost ls None = one_piece (plain_at ls)
expression_with inner innermost ls (Some rest) = braces inner innermost rest (number_at rest)

-- an expression with at most so many braces open
unfoldable pub expression : ℕ → Read Pieces
unfolding items
expression zero ls = one_piece (plain_at ls)
expression (suc zero) ls = expression_with (λ l. items (expression zero) (length l) l) (λ l. None) ls
    (eat open_brace ls)
expression (suc (suc d)) ls = expression_with (λ l. items (expression (suc d)) (length l) l)
    (λ l. items (expression d) (length l) l) ls (eat open_brace ls)

-- the lexeme of a sign
abbrev pub sign_lexeme : ℕ → Lexeme
sign_lexeme s = sign s

-- the lexeme isn't this sign
abbrev pub IsOtherThan : ℕ → Lexeme → Type 0
IsOtherThan s l = l ≡ sign s → ⊥

-- the lexeme of a number
abbrev pub number_lexeme : ℕ → Lexeme
number_lexeme n = number n

-- the lexeme is no number
abbrev pub IsNoNumber : Lexeme → Type 0
IsNoNumber l = (n : ℕ) → l ≡ number n → ⊥

-- a name
abbrev pub name_at : Read (List ℕ)
name_at [] = None
name_at (name n ∷ ls) = Some (n, ls)
name_at (_ ∷ ls) = None

-- the lexeme of a name
abbrev pub name_lexeme : List ℕ → Lexeme
name_lexeme n = name n

-- the lexeme is no name
abbrev pub IsNoName : Lexeme → Type 0
IsNoName l = (n : List ℕ) → l ≡ name n → ⊥

-- a constant, by its number of bits
abbrev pub width_at : Read ℕ
width_at [] = None
width_at (sized w ∷ ls) = Some (w, ls)
width_at (_ ∷ ls) = None

-- the lexeme of a constant of so many bits
abbrev pub width_lexeme : ℕ → Lexeme
width_lexeme w = sized w

-- the lexeme is no constant
abbrev pub IsNoWidth : Lexeme → Type 0
IsNoWidth l = (w : ℕ) → l ≡ sized w → ⊥

-- behind an open brace with at most so many more: the expressions within one brace more
unfoldable pub innermost : ℕ → Read Pieces
innermost zero l = None
innermost (suc d) l = items (expression d) (length l) l

-- behind an open brace with at most so many more open
abbrev pub inside : ℕ → Read Pieces
inside d ls = braces (λ l. items (expression d) (length l) l) (innermost d) ls (number_at ls)

-- behind `{NUM`
abbrev pub turns : ℕ → ℕ → List Lexeme → Option (Pieces × List Lexeme)
turns d n ls = option_and_then (repeat_end n) (option_and_then (innermost d) (eat open_brace ls))
