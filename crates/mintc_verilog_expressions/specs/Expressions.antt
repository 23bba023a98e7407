-- Expressions as trees: how they are written, and what they stand for.
use Rattle.std.specs.Prelude.{◌≡◌, ℕ, zero, suc, ◌+◌, ◌≤◌, max, List, [], ◌∷◌, ◌++◌, length}
use Rattle.mintc_text.specs.Signs.{close_brace, close_bracket, colon, comma, open_brace, open_bracket}
use Rattle.mintc_text.specs.declared.limits.TheConstants.{MOST_WIDTH}
use Rattle.mintc_netlist.specs.declared.expression.Piece.{Piece}
use Rattle.mintc_netlist.specs.declared.expression.Piece.TheVariants as piece
use Rattle.mintc_verilog_expressions.specs.Lexemes.{Lexeme, name, number, sized, sign}

mutual
  pub data Tree : Type 0 where
    plain : Piece → Tree
    concat : Trees → Tree
    repeat : ℕ → Trees → Tree

  pub data Trees : Type 0 where
    one : Tree → Trees
    more : Tree → Trees → Trees

-- NAME, NAME[NUM], NAME[NUM:NUM], a constant
abbrev pub spell_piece : Piece → List Lexeme
spell_piece (piece.Net n) = name n ∷ []
spell_piece (piece.Bit n at) = name n ∷ sign open_bracket ∷ number at ∷ sign close_bracket ∷ []
spell_piece (piece.Part n msb lsb) = name n ∷ sign open_bracket ∷ number msb ∷ sign colon ∷ number lsb ∷
    sign close_bracket ∷ []
spell_piece (piece.Constant width) = sized width ∷ []

-- {EXPR, EXPR} and {NUM{EXPR, EXPR}}
unfoldable mutual
  pub spell : Tree → List Lexeme
  spell (plain p) = spell_piece p
  spell (concat ts) = sign open_brace ∷ spell_all ts ++ sign close_brace ∷ []
  spell (repeat n ts) = sign open_brace ∷ number n ∷ sign open_brace ∷ spell_all ts ++ sign close_brace ∷
      sign close_brace ∷ []

  pub spell_all : Trees → List Lexeme
  spell_all (one t) = spell t
  spell_all (more t ts) = spell t ++ sign comma ∷ spell_all ts

-- pieces so many times
abbrev pub repeated : ℕ → List Piece → List Piece
repeated zero ps = []
repeated (suc n) ps = ps ++ repeated n ps

-- the pieces, repetitions written out
unfoldable mutual
  pub pieces : Tree → List Piece
  pieces (plain p) = p ∷ []
  pieces (concat ts) = pieces_all ts
  pieces (repeat n ts) = repeated n (pieces_all ts)

  pub pieces_all : Trees → List Piece
  pieces_all (one t) = pieces t
  pieces_all (more t ts) = pieces t ++ pieces_all ts

-- how many braces are open at the deepest place
unfoldable mutual
  pub depth : Tree → ℕ
  depth (plain p) = 0
  depth (concat ts) = depth_all ts + 1
  depth (repeat n ts) = depth_all ts + 2

  pub depth_all : Trees → ℕ
  depth_all (one t) = depth t
  depth_all (more t ts) = max (depth t) (depth_all ts)

-- each repetition is of at least once
unfoldable mutual
  pub Repeats : Tree → Type 0
  Repeats (plain p) = Unit {0}
  Repeats (concat ts) = RepeatAll ts
  Repeats (repeat n ts) = (1 ≤ n) × RepeatAll ts

  pub RepeatAll : Trees → Type 0
  RepeatAll (one t) = Repeats t
  RepeatAll (more t ts) = Repeats t × RepeatAll ts

-- The lexemes are an expression, which stands for the pieces.
pub record IsExpression (ls : List Lexeme) (ps : List Piece) : Type 0 where
  pub tree : Tree
  pub written : ls ≡ spell tree
  pub stands : ps ≡ pieces tree
  pub repeats : Repeats tree
  pub nested : depth tree ≤ 32
  pub count : length ps ≤ MOST_WIDTH
