-- Reading the parts of statements: functions on lexemes, which give what is said and what is left.
use Rattle.std.specs.Prelude.{ℕ, zero, suc, Bool, true, false, List, [], ◌∷◌, length, codes, Option, Some, None}
use Rattle.std.specs.Prelude.{option_map, option_and_then}
use Rattle.mintc_text.specs.Signs.{close_bracket, close_parenthesis, colon, comma, dot, equals, open_bracket}
use Rattle.mintc_text.specs.Signs.{open_parenthesis}
use Rattle.mintc_netlist.specs.declared.expression.Span.{Span}
use Rattle.mintc_netlist.specs.declared.module.Connection.{Connection}
use Rattle.mintc_verilog_expressions.specs.Lexemes.{Lexeme}
use Rattle.mintc_verilog_expressions.specs.Reading.{Read, Pieces, eat, number_at, name_at, expression}
use Rattle.mintc_verilog_expressions.specs.Keys.{eat_key, direction_at}
use Rattle.mintc_verilog.specs.declared.declarations.Header.{Header}
use Rattle.mintc_verilog.specs.declared.declarations.Decl.{Decl}
use Rattle.mintc_verilog.specs.StatementParts.{Assign, Instance}

-- what was read, made into something else
abbrev pub with_value : {A B : Type 0} → (A → B) → A × List Lexeme → B × List Lexeme
with_value f p = (f p.0, p.1)

-- a reader of something else
abbrev pub mapped : {A B : Type 0} → (A → B) → Read A → Read B
mapped f read ls = option_map (with_value f) (read ls)

-- what was read, and then a sign
abbrev pub before_sign : {A : Type 0} → ℕ → A × List Lexeme → Option (A × List Lexeme)
before_sign s p = option_map (λ rest. (p.0, rest)) (eat s p.1)

-- one or more with commas; the number bounds the turns, and the count of the lexemes is always enough
abbrev pub list_more : {A : Type 0} → Read (List A) → A × List Lexeme → Option (List Lexeme) →
    Option (List A × List Lexeme)
list_more more p None = Some (p.0 ∷ [], p.1)
list_more {A} more p (Some rest) = mapped (λ (others : List A). p.0 ∷ others) more rest

-- at most so many, with commas
unfoldable pub listed : {A : Type 0} → Read A → ℕ → Read (List A)
listed read zero ls = None
listed read (suc n) ls = option_and_then (λ p. list_more (listed read n) p (eat comma p.1)) (read ls)

-- one or more with commas
abbrev pub all_of : {A : Type 0} → Read A → Read (List A)
all_of read ls = listed read (length ls) ls

-- an optional range
abbrev pub span_end : ℕ → ℕ × List Lexeme → Option (Option Span × List Lexeme)
span_end m l = option_map (λ rest. (Some (record { msb = m; lsb = l.0 }), rest)) (eat close_bracket l.1)

-- behind `[NUM`
abbrev pub span_lsb : ℕ × List Lexeme → Option (Option Span × List Lexeme)
span_lsb m = option_and_then (span_end m.0) (option_and_then number_at (eat colon m.1))

-- the range behind its bracket, or no range
abbrev pub span_from : List Lexeme → Option (List Lexeme) → Option (Option Span × List Lexeme)
span_from ls None = Some (None, ls)
span_from ls (Some rest) = option_and_then span_lsb (number_at rest)

-- a range, where one comes next
abbrev pub span_at : Read (Option Span)
span_at ls = span_from ls (eat open_bracket ls)

-- what stands behind a direction: an optional `wire` and an optional range
abbrev pub wire_span : List Lexeme → Option (List Lexeme) → Option (Option Span × List Lexeme)
wire_span ls None = span_at ls
wire_span ls (Some rest) = span_at rest

-- the direction and the range of ports, behind the direction
abbrev pub header_behind : Bool → Read Header
header_behind output ls = mapped (λ (span : Option Span). record { output = output; span = span })
    (λ l. wire_span l (eat_key (codes "wire") l)) ls

-- a name in a list of ports with directions
abbrev pub decl_named : Option Header → Read Decl
decl_named header ls = mapped (λ (n : List ℕ). record { header = header; name = n }) name_at ls

-- a name with the direction that comes before it, or without
abbrev pub decl_from : List Lexeme → Option (Bool × List Lexeme) → Option (Decl × List Lexeme)
decl_from ls None = decl_named None ls
decl_from ls (Some o) = option_and_then (λ h. decl_named (Some h.0) h.1) (header_behind o.0 o.1)

-- a name in a list of ports, with or without a direction
abbrev pub decl_at : Read Decl
decl_at ls = decl_from ls (direction_at ls)

-- EXPR = EXPR
abbrev pub assign_right : Pieces × List Lexeme → Option (Assign × List Lexeme)
assign_right p = option_and_then (mapped (λ (right : Pieces). record { left = p.0; right = right }) (expression 32))
    (eat equals p.1)

-- one assign
abbrev pub assign_at : Read Assign
assign_at ls = option_and_then assign_right (expression 32 ls)

-- connections
abbrev pub named_connection : List ℕ → Option Pieces → Connection
named_connection pin expr = record { pin = Some pin; expr = expr }

-- behind .NAME(: nothing where the `)` follows, else an expression
abbrev pub named_expr : List ℕ → List Lexeme → Option (List Lexeme) → Option (Connection × List Lexeme)
named_expr pin ls (Some rest) = Some (named_connection pin None, rest)
named_expr pin ls None = option_and_then (before_sign close_parenthesis)
    (mapped (λ (ps : Pieces). named_connection pin (Some ps)) (expression 32) ls)

-- behind .NAME
abbrev pub named_pin : List ℕ × List Lexeme → Option (Connection × List Lexeme)
named_pin n = option_and_then (λ l. named_expr n.0 l (eat close_parenthesis l)) (eat open_parenthesis n.1)

-- a connection by name
abbrev pub named_at : Read Connection
named_at ls = option_and_then named_pin (option_and_then name_at (eat dot ls))

-- a connection in the order of the ports
abbrev pub ordered_at : Read Connection
ordered_at ls = mapped (λ (ps : Pieces). record { pin = None; expr = Some ps }) (expression 32) ls

-- connections, and whether they are by name
abbrev pub Connections : Type 0
Connections = Bool × List Connection

-- connections of one of the two ways
abbrev pub given : Bool → List Connection → Connections
given by_name cs = (by_name, cs)

-- behind the parenthesis that opens them, with the one that closes them
abbrev pub connections_from : List Lexeme → Option (List Lexeme) → Option (List Lexeme) →
    Option (Connections × List Lexeme)
connections_from ls (Some rest) dot = Some (given false [], rest)
connections_from ls None (Some rest) = option_and_then (before_sign close_parenthesis)
    (mapped (given true) (all_of named_at) ls)
connections_from ls None None = option_and_then (before_sign close_parenthesis)
    (mapped (given false) (all_of ordered_at) ls)

-- the connections of an instance, with the parenthesis that closes them
abbrev pub connections_at : Read Connections
connections_at ls = connections_from ls (eat close_parenthesis ls) (eat dot ls)

-- behind the name of an instance
abbrev pub instance_behind : List ℕ × List Lexeme → Option (Instance × List Lexeme)
instance_behind n = option_and_then
    (mapped (λ (c : Connections). record { name = n.0; by_name = c.0; connections = c.1 }) connections_at)
    (eat open_parenthesis n.1)

-- one instance
abbrev pub instance_at : Read Instance
instance_at ls = option_and_then instance_behind (name_at ls)
