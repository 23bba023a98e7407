-- What is written with lexemes of a text is ordinary: its numbers, widths, pieces and counts are within their limits.
use Rattle.std.proofs.Common.{◌≡◌, ℕ, zero, suc, ◌+◌, ◌≤◌, Bool, true, false, List, [], ◌∷◌, ◌++◌, length, map, Option, Some, None, IfSome, is_some, refl, sym, ap, ◌∙◌, subst, arith, length-append, codes, inl, inr}
use Rattle.std.specs.Prelude.{All}
use Rattle.std.proofs.lemmas.Bool.Decides.{nat_tests}
use Rattle.std.proofs.lemmas.List.{length-map}
use Rattle.std.proofs.lemmas.List.Elements.{All-nil, All-cons, All-tail, All-head, All-append, All-same, All-map}
use Rattle.mintc_text.specs.declared.limits.TheConstants.{MOST_BYTES}
use Rattle.mintc_vlex.specs.declared.token_list.Token.{Token}
use Rattle.mintc_vlex.specs.declared.token_list.TokenKind.{TokenKind}
use Rattle.mintc_netlist.specs.declared.expression.Piece.{Piece}
use Rattle.mintc_netlist.specs.declared.expression.Span.{Span}
use Rattle.mintc_netlist.specs.declared.module.Connection.{Connection}
use Rattle.mintc_netlist.specs.declared.module.Item.{Item}
use Rattle.mintc_netlist.specs.declared.module.Item.TheVariants as item
use Rattle.mintc_netlist.specs.Ordinary.{IsNumber, IsSpan, IsPiece, IsExpr, IsConnection, IsItem, entry_of}
use Rattle.mintc_verilog.specs.declared.declarations.Header.{Header}
use Rattle.mintc_verilog.specs.declared.declarations.Decl.{Decl}
use Rattle.mintc_verilog.specs.declared.open_module.Said.{Said}
use Rattle.mintc_verilog.specs.declared.open_module.Said.TheVariants as said
use Rattle.mintc_verilog_expressions.specs.Lexemes.{Lexeme, name, key, number, sized, sign, lexeme_by, lexeme_of}
use Rattle.mintc_verilog_expressions.specs.Expressions.{Tree, Trees, plain, concat, repeat, one, more, spell_piece, spell, spell_all, repeated, pieces, pieces_all, Repeats, RepeatAll, IsExpression}
use Rattle.mintc_verilog.specs.StatementParts.{Assign, Instance, Listed, IsName, range, IsHeader, IsHeaded, IsDecl, IsAssign, IsNamed, IsOrdered, AreConnections, IsInstance}
use Rattle.mintc_verilog.specs.Forms.{Form, opens, opens_typed, ports, nets, assigns, instances, closes, IsPortList, IsForm}
use Rattle.mintc_verilog.specs.StatementItems.{assign_item, instance_item}
use Rattle.mintc_verilog.specs.Netlists.{header_or, port_items, no_header, says}
use Rattle.mintc_verilog_expressions.proofs.SharedWritten.{longer}

-- a number of at most 65,535, a constant of 1 to 65,536 bits
abbrev pub IsLexeme : Lexeme → Type 0
IsLexeme (number n) = IsNumber n
IsLexeme (sized w) = (1 ≤ w) × (w ≤ 65536)
IsLexeme _ = Unit {0}

abbrev pub AreSound : List Lexeme → Type 0
AreSound [] = Unit {0}
AreSound (l ∷ ls) = IsLexeme l × AreSound ls

sound-front : (a b : List Lexeme) → AreSound (a ++ b) → AreSound a
sound-front [] b h = tt
sound-front (l ∷ a) b h = (h.0, sound-front a b h.1)

sound-back : (a b : List Lexeme) → AreSound (a ++ b) → AreSound b
sound-back [] b h = h
sound-back (l ∷ a) b h = sound-back a b h.1

-- lexemes of tokens
lexeme-sound : (k : TokenKind) (bs : List ℕ) → IsLexeme (lexeme_by k bs)
lexeme-sound k bs = grind (arith, nat_tests)

pub tokens-sound : (text : List ℕ) (ts : List Token) → AreSound (map (lexeme_of text) ts)
tokens-sound text [] = tt
tokens-sound text (t ∷ ts) = (lexeme-sound t.kind _, tokens-sound text ts)

-- expressions
piece-sound : (p : Piece) → AreSound (spell_piece p) → IsPiece p
piece-sound p h = grind arith

repeated-all : (n : ℕ) (ps : List Piece) → All IsPiece ps → All IsPiece (repeated n ps)
repeated-all zero ps h = All-nil IsPiece
repeated-all (suc n) ps h = All-append IsPiece ps (repeated n ps) h (repeated-all n ps h)

mutual
  unfolding spell pieces

  tree-sound : (t : Tree) → AreSound (spell t) → All IsPiece (pieces t)
  tree-sound (plain p) h = All-cons IsPiece p [] (piece-sound p h) (All-nil IsPiece)
  tree-sound (concat ts) h = trees-sound ts (sound-front (spell_all ts) (sign 125 ∷ []) h.1)
  tree-sound (repeat n ts) h = repeated-all n (pieces_all ts) (trees-sound ts (sound-front (spell_all ts) (sign 125 ∷ sign 125 ∷ []) h.1.1.1))

  trees-sound : (ts : Trees) → AreSound (spell_all ts) → All IsPiece (pieces_all ts)
  trees-sound (one t) h = tree-sound t h
  trees-sound (more t ts) h =
      All-append IsPiece (pieces t) (pieces_all ts) (tree-sound t (sound-front (spell t) (sign 44 ∷ spell_all ts) h)) (trees-sound ts (sound-back (spell t) (sign 44 ∷ spell_all ts) h).1)

mutual
  unfolding pieces Repeats

  some-pieces : (t : Tree) → Repeats t → 1 ≤ length (pieces t)
  some-pieces (plain p) r = omega arith
  some-pieces (concat ts) r = some-all-pieces ts r
  some-pieces (repeat n ts) r = omega (arith, longer n (pieces_all ts) r.0, some-all-pieces ts r.1)

  some-all-pieces : (ts : Trees) → RepeatAll ts → 1 ≤ length (pieces_all ts)
  some-all-pieces (one t) r = some-pieces t r
  some-all-pieces (more t ts) r = omega (arith, length-append (pieces t) (pieces_all ts), some-pieces t r.0)

expression-sound : (ls : List Lexeme) (ps : List Piece) → AreSound ls → IsExpression ls ps → IsExpr ps
expression-sound ls ps s h = record {
  some = omega (arith, ap length h.stands, some-pieces h.tree h.repeats);
  most = h.count;
  each = All-same IsPiece ps (pieces h.tree) h.stands (tree-sound h.tree (subst AreSound h.written s));
}

-- sound lexemes, no more of them than a text has bytes
pub record AreFew (ls : List Lexeme) : Type 0 where
  pub sound : AreSound ls
  pub few : length ls ≤ MOST_BYTES

few-front : (a b : List Lexeme) → AreFew (a ++ b) → AreFew a
few-front a b h = record { sound = sound-front a b h.sound; few = omega (arith, h.few, length-append a b) }

few-back : (a b : List Lexeme) → AreFew (a ++ b) → AreFew b
few-back a b h = record { sound = sound-back a b h.sound; few = omega (arith, h.few, length-append a b) }

few-tail : (l : Lexeme) (ls : List Lexeme) → AreFew (l ∷ ls) → AreFew ls
few-tail l ls h = record { sound = h.sound.1; few = omega (arith, h.few) }

-- one or more with commas
listed-few : {A : Type 0} (R : List Lexeme → A → Type 0) (ls : List Lexeme) (xs : List A) → Listed R ls xs → length xs ≤ length ls + 1
listed-few R ls [] h = absurd h
listed-few R ls (a ∷ []) h = omega arith
listed-few R ls (a ∷ b ∷ bs) (front, rest, e, r, left) = omega (arith, ap length e, length-append front (sign 44 ∷ rest), listed-few R rest (b ∷ bs) left)

listed-sound : {A : Type 0} (R : List Lexeme → A → Type 0) (P : A → Type 0) → ((l : List Lexeme) (a : A) → AreFew l → R l a → P a) →
    (ls : List Lexeme) (xs : List A) → AreFew ls → Listed R ls xs → All P xs
listed-sound R P each ls [] s h = absurd h
listed-sound R P each ls (a ∷ []) s h = All-cons P a [] (each ls a s h) (All-nil P)
listed-sound R P each ls (a ∷ b ∷ bs) s (front, rest, e, r, left) =
    let t = subst AreFew e s in
    All-cons P a (b ∷ bs) (each front a (few-front front (sign 44 ∷ rest) t) r)
    (listed-sound R P each rest (b ∷ bs) (few-tail (sign 44) rest (few-back front (sign 44 ∷ rest) t)) left)

-- ranges and headers
abbrev HasSpan : Option Span → Type 0
HasSpan o = IfSome o IsSpan

abbrev HasHeader : Option Header → Type 0
HasHeader o = IfSome o (λ (h : Header). HasSpan h.span)

range-sound : (o : Option Span) → AreSound (range o) → HasSpan o
range-sound o h = grind arith

header-sound : (ls : List Lexeme) (h : Header) → AreSound ls → IsHeader ls h → HasSpan h.span
header-sound ls h s (wire, e, w) = range-sound h.span (sound-back wire (range h.span) (subst AreSound e s).1)

headed-sound : (ls : List Lexeme) (o : Option Header) → AreSound ls → IsHeaded ls o → HasHeader o
headed-sound ls None s h = tt
headed-sound ls (Some o) s h = header-sound ls o s h

decl-sound : (ls : List Lexeme) (d : Decl) → AreFew ls → IsDecl ls d → HasHeader d.header
decl-sound ls d s (header, e, is) = headed-sound header d.header (sound-front header (name d.name ∷ []) (subst AreSound e s.sound)) is

header-or : (last : Header) (o : Option Header) → HasSpan last.span → HasHeader o → HasSpan (header_or last o).span
header-or last o h g = grind arith

port_items-sound : (entry : ℕ) (last : Header) (ds : List Decl) → HasSpan last.span → All (λ (d : Decl). HasHeader d.header) ds → All IsItem (port_items entry last ds)
port_items-sound entry last [] h g = All-nil IsItem
port_items-sound entry last (d ∷ ds) h g =
    let now = header-or last d.header h (All-head (λ (d : Decl). HasHeader d.header) d ds g) in
    let here = header_or last d.header in
    All-cons IsItem (item.Port entry here.output here.span (d.name ∷ [])) (port_items entry here ds) (now, omega arith)
    (port_items-sound entry here ds now (All-tail (λ (d : Decl). HasHeader d.header) d ds g))

port_items-count : (entry : ℕ) (last : Header) (ds : List Decl) → length (port_items entry last ds) ≡ length ds
port_items-count entry last [] = refl
port_items-count entry last (d ∷ ds) = omega (arith, port_items-count entry (header_or last d.header) ds)

-- assigns, connections, instances
assign-sound : (entry : ℕ) (ls : List Lexeme) (a : Assign) → AreFew ls → IsAssign ls a → IsItem (assign_item entry a)
assign-sound entry ls a s h =
    let t = subst AreSound h.written s.sound in
    (expression-sound h.left a.left (sound-front h.left (sign 61 ∷ h.right) t) h.lefts, expression-sound h.right a.right (sound-back h.left (sign 61 ∷ h.right) t).1 h.rights)

abbrev IsSomeExpr : Option (List Piece) → Type 0
IsSomeExpr o = IfSome o IsExpr

named-sound : (ls : List Lexeme) (c : Connection) → AreFew ls → IsNamed ls c → IsConnection true c
named-sound ls c s (pin, p, inl h) = record {
  pin = (λ _. refl, λ _. ap is_some p);
  ordered = λ no. absurd (no refl);
  expr = subst IsSomeExpr (sym h.1) tt;
}
named-sound ls c s (pin, p, inr (e, ps, w, x, is)) = record {
  pin = (λ _. refl, λ _. ap is_some p);
  ordered = λ no. absurd (no refl);
  expr = subst IsSomeExpr (sym x) (expression-sound e ps (sound-front e (sign 41 ∷ []) (subst AreSound w s.sound).1.1.1) is);
}

ordered-sound : (ls : List Lexeme) (c : Connection) → AreFew ls → IsOrdered ls c → IsConnection false c
ordered-sound ls c s (p, h) = record {
  pin = (λ some. let no : false ≡ true = sym (ap is_some p) ∙ some in no, λ yes. let no : false ≡ true = yes in absurd (cc));
  ordered = λ _. ap is_some h.1;
  expr = subst IsSomeExpr (sym h.1) (expression-sound ls h.0 s.sound h.2);
}

connections-sound : (ls : List Lexeme) (by_name : Bool) (cs : List Connection) → AreFew ls → AreConnections ls by_name cs → All (IsConnection by_name) cs × (length cs ≤ length ls + 1)
connections-sound ls true cs s h = (listed-sound IsNamed (IsConnection true) named-sound ls cs s h, listed-few IsNamed ls cs h)
connections-sound ls false cs s (inl h) = (All-same (IsConnection false) cs [] h.1 (All-nil (IsConnection false)), omega (arith, ap length h.1))
connections-sound ls false cs s (inr h) = (listed-sound IsOrdered (IsConnection false) ordered-sound ls cs s h, listed-few IsOrdered ls cs h)

instance-sound : (entry : ℕ) (cell : List ℕ) (ls : List Lexeme) (i : Instance) → AreFew ls → IsInstance ls i → IsItem (instance_item entry cell i)
instance-sound entry cell ls i s h =
    let t = few-tail (sign 40) _ (few-tail (name i.name) _ (subst AreFew h.written s)) in
    let inner = few-front h.connections (sign 41 ∷ []) t in
    let c = connections-sound h.connections i.by_name i.connections inner h.are in
    (c.0, omega (arith, c.1, inner.few))

-- what a statement says of so many lexemes
abbrev pub IsSaid : ℕ → Said → Type 0
IsSaid most (said.Opens o) = (length o.ports ≤ most) × (length o.items ≤ most) × All IsItem o.items
IsSaid most (said.Adds declares items) = (length items ≤ most) × All IsItem items
IsSaid most said.Closes = 1 ≤ most

ports-few : (list : List Lexeme) (ps : List (List ℕ)) → IsPortList list ps → length ps ≤ length list + 1
ports-few list ps (inl h) = omega (arith, ap length h.1)
ports-few list ps (inr (l, e, h)) = omega (arith, ap length e, length-append l (sign 41 ∷ []), listed-few IsName l ps h)

pub form-sound : (entry : ℕ) (ls : List Lexeme) (f : Form) → AreFew ls → IsForm ls f → IsSaid (length ls) (says entry f)
form-sound entry ls (opens n ps) s (list, e, is) =
    (omega (arith, ap length e, length-append list (sign 59 ∷ []), ports-few list ps is), omega arith, All-nil IsItem)
form-sound entry ls (opens_typed n ds) s (list, e, begins, are) =
    let inner = few-front list (sign 41 ∷ sign 59 ∷ []) (few-tail (sign 40) _ (few-tail (name n) _ (few-tail (key (codes "module")) _ (subst AreFew e s)))) in
    let few = listed-few IsDecl list ds are in
    let size = length-append list (sign 41 ∷ sign 59 ∷ []) in (
      omega (arith, ap length e, size, few, length-map ds (λ (d : Decl). d.name)),
      omega (arith, ap length e, size, few, port_items-count entry no_header ds),
      port_items-sound entry no_header ds tt (listed-sound IsDecl (λ (d : Decl). HasHeader d.header) decl-sound list ds inner are),
    )
form-sound entry ls (ports h ns) s (header, list, e, is, are) =
    let span = header-sound header h (sound-front header list (sound-front (header ++ list) (sign 59 ∷ []) (subst AreSound e s.sound))) is in
    let size = length-append (header ++ list) (sign 59 ∷ []) in
    let few : length ns ≤ length ls = omega (arith, ap length e, size, length-append header list, listed-few IsName list ns are) in
    (omega (arith, ap length e, size), All-cons IsItem (item.Port entry h.output h.span ns) [] (span, omega (arith, few, s.few)) (All-nil IsItem))
form-sound entry ls (nets span ns) s (word, list, w, e, are) =
    let ranged = range-sound span (sound-front (range span) list (sound-front (range span ++ list) (sign 59 ∷ []) (subst AreSound e s.sound).1)) in
    let size = length-append (range span ++ list) (sign 59 ∷ []) in
    let few : length ns ≤ length ls = omega (arith, ap length e, size, length-append (range span) list, listed-few IsName list ns are) in
    (omega (arith, ap length e), All-cons IsItem (item.Wire entry span ns) [] (ranged, omega (arith, few, s.few)) (All-nil IsItem))
form-sound entry ls (assigns pairs) s (list, e, are) =
    let inner = few-front list (sign 59 ∷ []) (few-tail (key (codes "assign")) _ (subst AreFew e s)) in (
      omega (arith, ap length e, length-append list (sign 59 ∷ []), listed-few IsAssign list pairs are, length-map pairs (assign_item entry)),
      All-map IsItem (assign_item entry) pairs (listed-sound IsAssign (λ a. IsItem (assign_item entry a)) (assign-sound entry) list pairs inner are),
    )
form-sound entry ls (instances cell is) s (list, e, are) =
    let inner = few-front list (sign 59 ∷ []) (few-tail (name cell) _ (subst AreFew e s)) in (
      omega (arith, ap length e, length-append list (sign 59 ∷ []), listed-few IsInstance list is are, length-map is (instance_item entry cell)),
      All-map IsItem (instance_item entry cell) is (listed-sound IsInstance (λ i. IsItem (instance_item entry cell i)) (instance-sound entry cell) list is inner are),
    )
form-sound entry ls closes s e = omega (arith, ap length e)

-- what a statement says has the statement's number
abbrev pub AreNumbered : ℕ → List Item → Type 0
AreNumbered entry items = All (λ i. entry_of i ≡ entry) items

abbrev pub IsNumbered : ℕ → Said → Type 0
IsNumbered entry (said.Opens o) = (o.entry ≡ entry) × AreNumbered entry o.items
IsNumbered entry (said.Adds declares items) = AreNumbered entry items
IsNumbered entry said.Closes = Unit {0}

port_items-numbered : (entry : ℕ) (last : Header) (ds : List Decl) → AreNumbered entry (port_items entry last ds)
port_items-numbered entry last [] = All-nil (λ i. entry_of i ≡ entry)
port_items-numbered entry last (d ∷ ds) = grind (arith, All-cons, port_items-numbered entry (header_or last d.header) ds)

pub says-numbered : (entry : ℕ) (f : Form) → IsNumbered entry (says entry f)
says-numbered entry (opens n ps) = (refl, All-nil (λ i. entry_of i ≡ entry))
says-numbered entry (opens_typed n ds) = (refl, port_items-numbered entry no_header ds)
says-numbered entry (ports h ns) = grind (arith, All-nil, All-cons)
says-numbered entry (nets span ns) = grind (arith, All-nil, All-cons)
says-numbered entry (assigns pairs) = All-map (λ i. entry_of i ≡ entry) (assign_item entry) pairs (λ k d h. refl)
says-numbered entry (instances cell is) = All-map (λ i. entry_of i ≡ entry) (instance_item entry cell) is (λ k d h. refl)
says-numbered entry closes = tt
