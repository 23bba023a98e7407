-- The parts of statements, as they are written.
use Rattle.std.specs.Prelude.{◌≡◌, ℕ, Bool, true, false, List, [], ◌∷◌, ◌++◌, Option, Some, None, codes, ◌⊎◌}
use Rattle.mintc_text.specs.Signs.{close_bracket, close_parenthesis, colon, comma, dot, equals, open_bracket}
use Rattle.mintc_text.specs.Signs.{open_parenthesis}
use Rattle.mintc_netlist.specs.declared.expression.Span.{Span}
use Rattle.mintc_netlist.specs.declared.expression.Piece.{Piece}
use Rattle.mintc_netlist.specs.declared.module.Connection.{Connection}
use Rattle.mintc_verilog_expressions.specs.Lexemes.{Lexeme, name, key, number, sign}
use Rattle.mintc_verilog_expressions.specs.Expressions.{IsExpression}
use Rattle.mintc_verilog.specs.declared.declarations.Header.{Header}
use Rattle.mintc_verilog.specs.declared.declarations.Decl.{Decl}

-- an assign, an instance
pub record Assign : Type 0 where
  pub left : List Piece
  pub right : List Piece

-- an instance of a cell that the statement names
pub record Instance : Type 0 where
  pub name : List ℕ
  pub by_name : Bool
  pub connections : List Connection

-- one or more, with commas between
abbrev pub Listed : {A : Type 0} → (List Lexeme → A → Type 0) → List Lexeme → List A → Type 0
Listed R ls [] = ⊥
Listed R ls (a ∷ []) = R ls a
Listed R ls (a ∷ b ∷ bs) = (front : List Lexeme) × (rest : List Lexeme) × (ls ≡ front ++ sign comma ∷ rest) × R front a
    × Listed R rest (b ∷ bs)

-- just one name
abbrev pub IsName : List Lexeme → List ℕ → Type 0
IsName ls n = ls ≡ name n ∷ []

-- an optional range, an optional `wire`, a direction
abbrev pub range : Option Span → List Lexeme
range None = []
range (Some s) = sign open_bracket ∷ number s.msb ∷ sign colon ∷ number s.lsb ∷ sign close_bracket ∷ []

-- `wire`, or nothing
abbrev pub IsWire : List Lexeme → Type 0
IsWire ls = (ls ≡ []) ⊎ (ls ≡ key (codes "wire") ∷ [])

-- the word of a direction
abbrev pub direction : Bool → Lexeme
direction true = key (codes "output")
direction false = key (codes "input")

-- direction, `wire`, range
abbrev pub IsHeader : List Lexeme → Header → Type 0
IsHeader ls h = (wire : List Lexeme) × (ls ≡ direction h.output ∷ wire ++ range h.span) × IsWire wire

-- a name in a list of ports with directions, with a direction of its own or the one before
abbrev pub IsHeaded : List Lexeme → Option Header → Type 0
IsHeaded ls None = ls ≡ []
IsHeaded ls (Some h) = IsHeader ls h

-- a name in a list of ports, behind its direction
abbrev pub IsDecl : List Lexeme → Decl → Type 0
IsDecl ls d = (header : List Lexeme) × (ls ≡ header ++ name d.name ∷ []) × IsHeaded header d.header

-- EXPR = EXPR
pub record IsAssign (ls : List Lexeme) (a : Assign) : Type 0 where
  pub left : List Lexeme
  pub right : List Lexeme
  pub written : ls ≡ left ++ sign equals ∷ right
  pub lefts : IsExpression left a.left
  pub rights : IsExpression right a.right

-- .NAME(), .NAME(EXPR); an expression
abbrev pub IsNamed : List Lexeme → Connection → Type 0
IsNamed ls c = (pin : List ℕ) × (c.pin ≡ Some pin) ×
    (((ls ≡ sign dot ∷ name pin ∷ sign open_parenthesis ∷ sign close_parenthesis ∷ []) × (c.expr ≡ None))
    ⊎ ((e : List Lexeme) × (ps : List Piece)
    × (ls ≡ sign dot ∷ name pin ∷ sign open_parenthesis ∷ e ++ sign close_parenthesis ∷ [])
    × (c.expr ≡ Some ps) × IsExpression e ps))

-- a connection in the order of the ports
abbrev pub IsOrdered : List Lexeme → Connection → Type 0
IsOrdered ls c = (c.pin ≡ None) × ((ps : List Piece) × (c.expr ≡ Some ps) × IsExpression ls ps)

-- no connections at all count as ordered
abbrev pub AreConnections : List Lexeme → Bool → List Connection → Type 0
AreConnections ls true cs = Listed IsNamed ls cs
AreConnections ls false cs = ((ls ≡ []) × (cs ≡ [])) ⊎ Listed IsOrdered ls cs

-- NAME ( CONNS )
pub record IsInstance (ls : List Lexeme) (i : Instance) : Type 0 where
  pub connections : List Lexeme
  pub written : ls ≡ name i.name ∷ sign open_parenthesis ∷ connections ++ sign close_parenthesis ∷ []
  pub are : AreConnections connections i.by_name i.connections
