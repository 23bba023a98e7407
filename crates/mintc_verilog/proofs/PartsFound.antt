-- What is read is written so, in front of what is left.
use Rattle.std.proofs.Common.{◌≡◌, ℕ, zero, suc, ◌<◌, Bool, true, false, List, [], ◌∷◌, ◌++◌, length, codes, Option, Some, None, option_and_then, refl, sym, ap, ◌∙◌, subst, arith, append_assoc, length-append, inl, inr}
use Rattle.std.proofs.lemmas.Slice.Eq.{bytes_eq-Decides}
use Rattle.mintc_netlist.specs.declared.expression.Span.{Span}
use Rattle.mintc_netlist.specs.declared.module.Connection.{Connection}
use Rattle.mintc_verilog.specs.declared.declarations.Header.{Header}
use Rattle.mintc_verilog.specs.declared.declarations.Decl.{Decl}
use Rattle.mintc_verilog_expressions.specs.Lexemes.{Lexeme, name, key, sign}
use Rattle.mintc_verilog_expressions.specs.Expressions.{spell, IsExpression}
use Rattle.mintc_verilog_expressions.specs.Reading.{Read, Pieces, eat, name_at, expression}
use Rattle.mintc_verilog.specs.StatementParts.{Assign, Instance, Listed, IsName, range, IsWire, direction, IsHeader, IsDecl, IsAssign, IsNamed, IsOrdered, AreConnections, IsInstance}
use Rattle.mintc_verilog_expressions.specs.Keys.{eat_key, direction_at}
use Rattle.mintc_verilog.specs.StatementPartReading.{with_value, mapped, before_sign, listed, list_more, all_of, span_at, wire_span, header_behind, decl_named, decl_from, decl_at, assign_right, assign_at, named_connection, named_expr, named_pin, named_at, ordered_at, Connections, given, connections_from, connections_at, instance_behind, instance_at}
use Rattle.mintc_verilog.specs.StatementItems.{assign_item, instance_item}
use Rattle.mintc_verilog_expressions.proofs.SharedWritten.{some_lexeme}
use Rattle.mintc_verilog.proofs.PartLists.{list-begun, list-shrinks}
use Rattle.mintc_verilog_expressions.proofs.SharedFound.{and_then-some, map-some, eat-some, number-some, found}

-- what is read is written in front of what is left
pub record Finding {A : Type 0} (R : List Lexeme → A → Type 0) (ls : List Lexeme) (p : A × List Lexeme) : Type 0 where
  pub front : List Lexeme
  pub written : ls ≡ front ++ p.1
  pub stands : R front p.0

abbrev pub Finds : {A : Type 0} → (List Lexeme → A → Type 0) → Read A → Type 0
Finds {A} R read = (ls : List Lexeme) (p : A × List Lexeme) → read ls ≡ Some p → Finding R ls p

abbrev pub Shrinks : {A : Type 0} → Read A → Type 0
Shrinks {A} read = (ls : List Lexeme) (p : A × List Lexeme) → read ls ≡ Some p → length p.1 < length ls

pub name-some : (ls : List Lexeme) (n : List ℕ × List Lexeme) → name_at ls ≡ Some n → ls ≡ name n.0 ∷ n.1
name-some ls n e = grind arith

pub name-finds : Finds IsName name_at
name-finds ls p e = record { front = name p.0 ∷ []; written = name-some ls p e; stands = refl }

pub expression-finds : Finds IsExpression (expression 32)
expression-finds ls p e =
    let f = found 32 ls p e in
    record { front = spell f.tree; written = f.written; stands = record { tree = f.tree; written = refl; stands = f.stands; repeats = f.repeats; nested = f.nested; count = f.count } }

-- what is read is shorter than what there was
pub shrinks : {A : Type 0} (R : List Lexeme → A → Type 0) (read : Read A) → Finds R read → ((ls : List Lexeme) (a : A) → R ls a → 0 < length ls) → Shrinks read
shrinks R read finds some ls p e =
    let f = finds ls p e in
    omega (arith, ap length f.written, length-append f.front p.1, some f.front p.0 f.stands)

pub mapped-shrinks : {A B : Type 0} (f : A → B) (read : Read A) → Shrinks read → Shrinks (mapped f read)
mapped-shrinks {A} {B} f read h ls p e =
    let a = map-some (read ls) (with_value f) p e in
    omega (arith, h ls a.0 a.1, ap (λ (q : B × List Lexeme). length q.1) a.2)

pub name-shrinks : Shrinks name_at
name-shrinks ls p e = omega (arith, ap length (name-some ls p e))

expression-shrinks : Shrinks (expression 32)
expression-shrinks ls p e =
    let f = found 32 ls p e in
    omega (arith, ap length f.written, length-append (spell f.tree) p.1, some_lexeme f.tree)

pub ordered-shrinks : Shrinks ordered_at
ordered-shrinks = mapped-shrinks (λ (ps : Pieces). record { pin = None; expr = Some ps }) (expression 32) expression-shrinks

-- lists
listed-cons : {A : Type 0} (R : List Lexeme → A → Type 0) (front rest : List Lexeme) (a : A) (more : List A) → R front a → Listed R rest more → Listed R (front ++ sign 44 ∷ rest) (a ∷ more)
listed-cons R front rest a [] h g = absurd g
listed-cons R front rest a (b ∷ bs) h g = (front, rest, refl, h, g)

list_more-finds : {A : Type 0} (R : List Lexeme → A → Type 0) (next : Read (List A)) → Finds (Listed R) next → (ls : List Lexeme) (p : A × List Lexeme) (q : List A × List Lexeme) (o : Option (List Lexeme)) →
    eat 44 p.1 ≡ o → Finding R ls p → list_more next p o ≡ Some q → Finding (Listed R) ls q
list_more-finds R next finds ls p q None o f e =
    let same : (p.0 ∷ [], p.1) ≡ q = cc in
    subst (Finding (Listed R) ls) same (record { front = f.front; written = f.written; stands = f.stands })
list_more-finds {A} R next finds ls p q (Some rest) o f e =
    let a = map-some (next rest) (with_value (λ (others : List A). p.0 ∷ others)) q e in
    let g = finds rest a.0 a.1 in
    subst (Finding (Listed R) ls) a.2 (record {
      front = f.front ++ sign 44 ∷ g.front;
      written = f.written ∙ ap (λ l. f.front ++ l) (eat-some 44 p.1 rest o ∙ ap (λ l. sign 44 ∷ l) g.written) ∙ sym (append_assoc f.front (sign 44 ∷ g.front) a.0.1);
      stands = listed-cons R f.front g.front p.0 a.0.0 f.stands g.stands;
    })

pub listed-finds : {A : Type 0} (R : List Lexeme → A → Type 0) (read : Read A) → Finds R read → (n : ℕ) → Finds (Listed R) (listed read n)
unfolding listed
listed-finds R read finds zero ls p e = absurd (cc)
listed-finds R read finds (suc n) ls p e =
    let a = and_then-some (read ls) (λ p. list_more (listed read n) p (eat 44 p.1)) p e in
    list_more-finds R (listed read n) (listed-finds R read finds n) ls a.0 p (eat 44 a.0.1) refl (finds ls a.0 a.1) a.2

pub all-finds : {A : Type 0} (R : List Lexeme → A → Type 0) (read : Read A) → Finds R read → Finds (Listed R) (all_of read)
all-finds R read finds ls p e = listed-finds R read finds (length ls) ls p e

-- reserved words
pub key-some : (w : List ℕ) (ls rest : List Lexeme) → eat_key w ls ≡ Some rest → ls ≡ key w ∷ rest
key-some w ls rest e = grind (arith, bytes_eq-Decides)

pub direction-some : (ls : List Lexeme) (p : Bool × List Lexeme) → direction_at ls ≡ Some p → ls ≡ direction p.0 ∷ p.1
direction-some ls p e = grind (arith, key-some)

-- ranges
abbrev pub IsRange : List Lexeme → Option Span → Type 0
IsRange ls s = ls ≡ range s

pub span-finds : Finds IsRange span_at
span-finds ls p e = record { front = range p.0; written = grind (arith, eat-some, number-some); stands = refl }

-- an optional `wire` and an optional range
abbrev pub IsWireRange : List Lexeme → Option Span → Type 0
IsWireRange ls s = (wire : List Lexeme) × (ls ≡ wire ++ range s) × IsWire wire

wire-by : (ls : List Lexeme) (p : Option Span × List Lexeme) (o : Option (List Lexeme)) → eat_key (codes "wire") ls ≡ o → wire_span ls o ≡ Some p → Finding IsWireRange ls p
wire-by ls p None o e = let f = span-finds ls p e in record { front = f.front; written = f.written; stands = ([], f.stands, inl refl) }
wire-by ls p (Some rest) o e =
    let f = span-finds rest p e in
    let word = key (codes "wire") in
    record { front = word ∷ f.front; written = key-some (codes "wire") ls rest o ∙ ap (λ l. word ∷ l) f.written; stands = (word ∷ [], ap (λ l. word ∷ l) f.stands, inr refl) }

abbrev pub IsBehind : Bool → List Lexeme → Header → Type 0
IsBehind output ls h = (h.output ≡ output) × IsWireRange ls h.span

abbrev header : Bool → Option Span → Header
header output span = record { output = output; span = span }

pub header-finds : (output : Bool) → Finds (IsBehind output) (header_behind output)
header-finds output ls p e =
    let a = map-some (wire_span ls (eat_key (codes "wire") ls)) (with_value (header output)) p e in
    let f = wire-by ls a.0 (eat_key (codes "wire") ls) refl a.1 in
    subst (Finding (IsBehind output) ls) a.2 (record { front = f.front; written = f.written; stands = (refl, f.stands) })

pub header-of : (output : Bool) (ls : List Lexeme) (h : Header) → IsBehind output ls h → IsHeader (direction output ∷ ls) h
header-of output ls h b = (b.1.0, ap (λ l. direction output ∷ l) b.1.1 ∙ ap (λ o. direction o ∷ b.1.0 ++ range h.span) (sym b.0), b.1.2)

-- ports with and without a direction
abbrev decl : Option Header → List ℕ → Decl
decl header n = record { header = header; name = n }

decl-by : (ls : List Lexeme) (p : Decl × List Lexeme) (o : Option (Bool × List Lexeme)) → direction_at ls ≡ o → decl_from ls o ≡ Some p → Finding IsDecl ls p
decl-by ls p None o e =
    let a = map-some (name_at ls) (with_value (decl None)) p e in
    subst (Finding IsDecl ls) a.2 (record { front = name a.0.0 ∷ []; written = name-some ls a.0 a.1; stands = ([], refl, refl) })
decl-by ls p (Some d) o e =
    let a = and_then-some (header_behind d.0 d.1) (λ h. decl_named (Some h.0) h.1) p e in
    let f = header-finds d.0 d.1 a.0 a.1 in
    let b = map-some (name_at a.0.1) (with_value (decl (Some a.0.0))) p a.2 in
    let front = direction d.0 ∷ f.front in
    subst (Finding IsDecl ls) b.2 (record {
      front = front ++ name b.0.0 ∷ [];
      written = direction-some ls d o ∙ ap (λ l. direction d.0 ∷ l) f.written ∙ ap (λ l. front ++ l) (name-some a.0.1 b.0 b.1) ∙ sym (append_assoc front (name b.0.0 ∷ []) b.0.1);
      stands = (front, refl, header-of d.0 f.front a.0.0 f.stands);
    })

pub decl-finds : Finds IsDecl decl_at
decl-finds ls p e = decl-by ls p (direction_at ls) refl e

some-decl : (ls : List Lexeme) (d : Decl) → IsDecl ls d → 0 < length ls
some-decl ls d h = omega (arith, ap length h.1, length-append h.0 (name d.name ∷ []))

pub decl-shrinks : Shrinks decl_at
decl-shrinks = shrinks IsDecl decl_at decl-finds some-decl

-- assigns
abbrev assign : Pieces → Pieces → Assign
assign left right = record { left = left; right = right }

pub assign-finds : Finds IsAssign assign_at
assign-finds ls p e =
    let a = and_then-some (expression 32 ls) assign_right p e in
    let b = and_then-some (eat 61 a.0.1) (mapped (assign a.0.0) (expression 32)) p a.2 in
    let c = map-some (expression 32 b.0) (with_value (assign a.0.0)) p b.2 in
    let f = expression-finds ls a.0 a.1 in
    let g = expression-finds b.0 c.0 c.1 in
    subst (Finding IsAssign ls) c.2 (record {
      front = f.front ++ sign 61 ∷ g.front;
      written = f.written ∙ ap (λ l. f.front ++ l) (eat-some 61 a.0.1 b.0 b.1 ∙ ap (λ l. sign 61 ∷ l) g.written) ∙ sym (append_assoc f.front (sign 61 ∷ g.front) c.0.1);
      stands = record { left = f.front; right = g.front; written = refl; lefts = f.stands; rights = g.stands };
    })

some-assign : (ls : List Lexeme) (a : Assign) → IsAssign ls a → 0 < length ls
some-assign ls a h = omega (arith, ap length h.written, length-append h.left (sign 61 ∷ h.right))

pub assign-shrinks : (entry : ℕ) → Shrinks (mapped (assign_item entry) assign_at)
assign-shrinks entry = mapped-shrinks (assign_item entry) assign_at (shrinks IsAssign assign_at assign-finds some-assign)

-- connections
pub before-some : {A : Type 0} (s : ℕ) (p q : A × List Lexeme) → before_sign s p ≡ Some q → (p.0 ≡ q.0) × (p.1 ≡ sign s ∷ q.1)
before-some s p q e = grind (arith, eat-some)

named-by : (ls : List Lexeme) (n : List ℕ) (rest : List Lexeme) (p : Connection × List Lexeme) (o : Option (List Lexeme)) → ls ≡ sign 46 ∷ name n ∷ sign 40 ∷ rest → eat 41 rest ≡ o →
    named_expr n rest o ≡ Some p → Finding IsNamed ls p
named-by ls n rest p (Some left) w o e =
    let same : (named_connection n None, left) ≡ p = cc in
    subst (Finding IsNamed ls) same (record {
      front = sign 46 ∷ name n ∷ sign 40 ∷ sign 41 ∷ [];
      written = w ∙ ap (λ l. sign 46 ∷ name n ∷ sign 40 ∷ l) (eat-some 41 rest left o);
      stands = (n, refl, inl (refl, refl));
    })
named-by ls n rest p None w o e =
    let a = and_then-some (mapped (λ (ps : Pieces). named_connection n (Some ps)) (expression 32) rest) (before_sign 41) p e in
    let b = map-some (expression 32 rest) (with_value (λ (ps : Pieces). named_connection n (Some ps))) a.0 a.1 in
    let c = before-some 41 a.0 p a.2 in
    let f = expression-finds rest b.0 b.1 in
    let left : b.0.1 ≡ sign 41 ∷ p.1 = ap (λ (q : Connection × List Lexeme). q.1) b.2 ∙ c.1 in
    let same : named_connection n (Some b.0.0) ≡ p.0 = ap (λ (q : Connection × List Lexeme). q.0) b.2 ∙ c.0 in
    record {
      front = sign 46 ∷ name n ∷ sign 40 ∷ f.front ++ sign 41 ∷ [];
      written = w ∙ ap (λ l. sign 46 ∷ name n ∷ sign 40 ∷ l) (f.written ∙ ap (λ l. f.front ++ l) left ∙ sym (append_assoc f.front (sign 41 ∷ []) p.1));
      stands = subst (IsNamed (sign 46 ∷ name n ∷ sign 40 ∷ f.front ++ sign 41 ∷ [])) same (n, refl, inr (f.front, b.0.0, refl, refl, f.stands));
    }

pub named-finds : Finds IsNamed named_at
named-finds ls p e =
    let a = and_then-some (option_and_then name_at (eat 46 ls)) named_pin p e in
    let b = and_then-some (eat 46 ls) name_at a.0 a.1 in
    let c = and_then-some (eat 40 a.0.1) (λ l. named_expr a.0.0 l (eat 41 l)) p a.2 in
    let written : ls ≡ sign 46 ∷ name a.0.0 ∷ sign 40 ∷ c.0 =
    eat-some 46 ls b.0 b.1 ∙ ap (λ l. sign 46 ∷ l) (name-some b.0 a.0 b.2) ∙ ap (λ l. sign 46 ∷ name a.0.0 ∷ l) (eat-some 40 a.0.1 c.0 c.1) in
    named-by ls a.0.0 c.0 p (eat 41 c.0) written refl c.2

some-named : (ls : List Lexeme) (c : Connection) → IsNamed ls c → 0 < length ls
some-named ls c h = grind arith

pub named-shrinks : Shrinks named_at
named-shrinks = shrinks IsNamed named_at named-finds some-named

abbrev ordered : Pieces → Connection
ordered ps = record { pin = None; expr = Some ps }

pub ordered-finds : Finds IsOrdered ordered_at
ordered-finds ls p e =
    let a = map-some (expression 32 ls) (with_value ordered) p e in
    let f = expression-finds ls a.0 a.1 in
    subst (Finding IsOrdered ls) a.2 (record { front = f.front; written = f.written; stands = (refl, (a.0.0, refl, f.stands)) })

-- connections with the parenthesis that closes them
abbrev pub AreClosed : List Lexeme → Connections → Type 0
AreClosed ls c = (list : List Lexeme) × (ls ≡ list ++ sign 41 ∷ []) × AreConnections list c.0 c.1

closed-by : (by_name : Bool) (R : List Lexeme → Connection → Type 0) (read : Read Connection) → Finds R read → ((l : List Lexeme) (cs : List Connection) → Listed R l cs → AreConnections l by_name cs) →
    (ls : List Lexeme) (p : Connections × List Lexeme) → option_and_then (before_sign 41) (mapped (given by_name) (all_of read) ls) ≡ Some p → Finding AreClosed ls p
closed-by by_name R read finds are ls p e =
    let a = and_then-some (mapped (given by_name) (all_of read) ls) (before_sign 41) p e in
    let b = map-some (all_of read ls) (with_value (given by_name)) a.0 a.1 in
    let c = before-some 41 a.0 p a.2 in
    let f = all-finds R read finds ls b.0 b.1 in
    let left : b.0.1 ≡ sign 41 ∷ p.1 = ap (λ (q : Connections × List Lexeme). q.1) b.2 ∙ c.1 in
    let same : given by_name b.0.0 ≡ p.0 = ap (λ (q : Connections × List Lexeme). q.0) b.2 ∙ c.0 in
    record {
      front = f.front ++ sign 41 ∷ [];
      written = f.written ∙ ap (λ l. f.front ++ l) left ∙ sym (append_assoc f.front (sign 41 ∷ []) p.1);
      stands = subst (AreClosed (f.front ++ sign 41 ∷ [])) same (f.front, refl, are f.front b.0.0 f.stands);
    }

connections-by : (ls : List Lexeme) (p : Connections × List Lexeme) (o dot : Option (List Lexeme)) → eat 41 ls ≡ o → connections_from ls o dot ≡ Some p → Finding AreClosed ls p
connections-by ls p (Some rest) dot o e =
    let same : (given false [], rest) ≡ p = cc in
    subst (Finding AreClosed ls) same (record { front = sign 41 ∷ []; written = eat-some 41 ls rest o; stands = ([], refl, inl (refl, refl)) })
connections-by ls p None (Some rest) o e = closed-by true IsNamed named_at named-finds (λ l cs h. h) ls p e
connections-by ls p None None o e = closed-by false IsOrdered ordered_at ordered-finds (λ l cs h. inr h) ls p e

pub connections-finds : Finds AreClosed connections_at
connections-finds ls p e = connections-by ls p (eat 41 ls) (eat 46 ls) refl e

-- instances
abbrev instance : List ℕ → Connections → Instance
instance n c = record { name = n; by_name = c.0; connections = c.1 }

pub instance-finds : Finds IsInstance instance_at
instance-finds ls p e =
    let a = and_then-some (name_at ls) instance_behind p e in
    let b = and_then-some (eat 40 a.0.1) (mapped (instance a.0.0) connections_at) p a.2 in
    let c = map-some (connections_at b.0) (with_value (instance a.0.0)) p b.2 in
    let f = connections-finds b.0 c.0 c.1 in
    subst (Finding IsInstance ls) c.2 (record {
      front = name a.0.0 ∷ sign 40 ∷ f.front;
      written = name-some ls a.0 a.1 ∙ ap (λ l. name a.0.0 ∷ l) (eat-some 40 a.0.1 b.0 b.1) ∙ ap (λ l. name a.0.0 ∷ sign 40 ∷ l) f.written;
      stands = record { connections = f.stands.0; written = ap (λ l. name a.0.0 ∷ sign 40 ∷ l) f.stands.1; are = f.stands.2 };
    })

some-instance : (ls : List Lexeme) (i : Instance) → IsInstance ls i → 0 < length ls
some-instance ls i h = omega (arith, ap length h.written)

pub instance-shrinks : (entry : ℕ) (cell : List ℕ) → Shrinks (mapped (instance_item entry cell) instance_at)
instance-shrinks entry cell = mapped-shrinks (instance_item entry cell) instance_at (shrinks IsInstance instance_at instance-finds some-instance)

-- what the loops over lists need: they begin with the whole, and what is left shrinks
pub ruleset loops = (list-begun, list-shrinks, name-shrinks, decl-shrinks)
