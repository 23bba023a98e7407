-- What is written as an expression is read as its pieces, whatever follows that doesn't go on with it.
use Rattle.std.proofs.Common.{◌≡◌, ℕ, zero, suc, ◌*◌, ◌<◌, ◌≤◌, List, [], ◌∷◌, ◌++◌, length, Some, None, option_and_then, refl, ap, ◌∙◌, arith, append_assoc, length-append}
use Rattle.std.proofs.lemmas.Bool.Decides.{nat_tests}
use Rattle.mintc_netlist.specs.declared.expression.Piece.{Piece}
use Rattle.mintc_verilog_expressions.specs.Lexemes.{Lexeme, number, sign}
use Rattle.mintc_verilog_expressions.specs.Expressions.{Tree, Trees, plain, concat, repeat, one, more, spell_piece, spell, spell_all, repeated, pieces, pieces_all, depth, depth_all, Repeats, RepeatAll}
use Rattle.mintc_verilog_expressions.specs.Reading.{Pieces, eat, number_at, plain_at, one_piece, limited, items, join_items, braces, concat_end, repeat_end, innermost, expression}

plain-reads : (p : Piece) (rest : List Lexeme) → eat 91 rest ≡ None → plain_at (spell_piece p ++ rest) ≡ Some (p, rest)
plain-reads p rest h = grind arith

no_brace : (p : Piece) (rest : List Lexeme) → eat 123 (spell_piece p ++ rest) ≡ None
no_brace p rest = grind arith

not_number : (t : Tree) (rest : List Lexeme) → number_at (spell t ++ rest) ≡ None
unfolding spell
not_number (plain p) rest = grind arith
not_number (concat ts) rest = refl
not_number (repeat n ts) rest = refl

none_number : (ts : Trees) (rest : List Lexeme) → number_at (spell_all ts ++ rest) ≡ None
unfolding spell
none_number (one t) rest = not_number t rest
none_number (more t ts) rest = ap number_at (append_assoc (spell t) (sign 44 ∷ spell_all ts) rest) ∙ not_number t _

some_piece : (p : Piece) → 0 < length (spell_piece p)
some_piece p = grind arith

pub some_lexeme : (t : Tree) → 0 < length (spell t)
unfolding spell
some_lexeme (plain p) = some_piece p
some_lexeme (concat ts) = omega arith
some_lexeme (repeat n ts) = omega arith

pub length-repeated : (n : ℕ) (ps : List Piece) → length (repeated n ps) ≡ n * length ps
length-repeated zero ps = omega arith
length-repeated (suc n) ps = omega (arith, length-append ps (repeated n ps), length-repeated n ps)

pub braceless : (d : ℕ) (ls : List Lexeme) → eat 123 ls ≡ None → expression d ls ≡ one_piece (plain_at ls)
unfolding expression
braceless zero ls h = refl
braceless (suc zero) ls h = rw h refl
braceless (suc (suc d)) ls h = rw h refl

pub braced : (d : ℕ) (ls : List Lexeme) → expression (suc d) (sign 123 ∷ ls) ≡ braces (λ l. items (expression d) (length l) l) (innermost d) ls (number_at ls)
unfolding expression innermost
braced zero ls = refl
braced (suc d) ls = refl

pub limited-fits : (ps : Pieces) (ls : List Lexeme) → length ps ≤ 65536 → limited ps ls ≡ Some (ps, ls)
limited-fits ps ls h = grind (arith, nat_tests)

repeat-fits : (n : ℕ) (ps : Pieces) (rest : List Lexeme) → 1 ≤ n → length (repeated n ps) ≤ 65536 →
    repeat_end n (ps, sign 125 ∷ sign 125 ∷ rest) ≡ Some (repeated n ps, rest)
repeat-fits n ps rest h g = grind (arith, nat_tests, length-repeated)

-- a repetition has at least the pieces of one turn
pub longer : (n : ℕ) (ps : Pieces) → 1 ≤ n → length ps ≤ length (repeated n ps)
longer n ps h = grind (arith, length-append)

mutual
  unfolding items innermost spell pieces depth Repeats

  pub reads : (t : Tree) (d : ℕ) (rest : List Lexeme) → depth t ≤ d → Repeats t → length (pieces t) ≤ 65536 → eat 91 rest ≡ None →
      expression d (spell t ++ rest) ≡ Some (pieces t, rest)
  reads (plain p) d rest h r c e = braceless d (spell_piece p ++ rest) (no_brace p rest) ∙ ap one_piece (plain-reads p rest e)
  reads (concat ts) zero rest h r c e = absurd (omega arith)
  reads (concat ts) (suc d) rest h r c e =
      let ls = spell_all ts ++ sign 125 ∷ rest in
      let inner = λ (l : List Lexeme). items (expression d) (length l) l in
      ap (λ l. expression (suc d) (sign 123 ∷ l)) (append_assoc (spell_all ts) (sign 125 ∷ []) rest)
      ∙ braced d ls
      ∙ ap (braces inner (innermost d) ls) (none_number ts (sign 125 ∷ rest))
      ∙ ap (option_and_then concat_end) (reads-all ts d (length ls) (sign 125 ∷ rest) (omega arith) (omega (arith, length-append (spell_all ts) (sign 125 ∷ rest))) r c refl refl)
  reads (repeat n ts) zero rest h r c e = absurd (omega arith)
  reads (repeat n ts) (suc zero) rest h r c e = absurd (omega arith)
  reads (repeat n ts) (suc (suc d)) rest h r c e =
      let ls = spell_all ts ++ sign 125 ∷ sign 125 ∷ rest in
      ap (λ l. expression (suc (suc d)) (sign 123 ∷ number n ∷ sign 123 ∷ l)) (append_assoc (spell_all ts) (sign 125 ∷ sign 125 ∷ []) rest)
      ∙ braced (suc d) (number n ∷ sign 123 ∷ ls)
      ∙ ap (option_and_then (repeat_end n)) (reads-all ts d (length ls) (sign 125 ∷ sign 125 ∷ rest) (omega arith) (omega (arith, length-append (spell_all ts) (sign 125 ∷ sign 125 ∷ rest))) r.1 (omega (arith, longer n (pieces_all ts) r.0)) refl refl)
      ∙ repeat-fits n (pieces_all ts) rest r.0 c

  pub reads-all : (ts : Trees) (d n : ℕ) (rest : List Lexeme) → depth_all ts ≤ d → length (spell_all ts) ≤ n → RepeatAll ts → length (pieces_all ts) ≤ 65536 →
      eat 91 rest ≡ None → eat 44 rest ≡ None → items (expression d) n (spell_all ts ++ rest) ≡ Some (pieces_all ts, rest)
  reads-all (one t) d zero rest h turns r c e f = absurd (omega (arith, some_lexeme t))
  reads-all (one t) d (suc n) rest h turns r c e f =
      ap (option_and_then (λ p. join_items (items (expression d) n) p (eat 44 p.1))) (reads t d rest h r c e)
      ∙ ap (join_items (items (expression d) n) (pieces t, rest)) f
  reads-all (more t ts) d zero rest h turns r c e f = absurd (omega (arith, some_lexeme t, length-append (spell t) (sign 44 ∷ spell_all ts)))
  reads-all (more t ts) d (suc n) rest h turns r c e f =
      let after = sign 44 ∷ (spell_all ts ++ rest) in
      let count = length-append (pieces t) (pieces_all ts) in
      ap (items (expression d) (suc n)) (append_assoc (spell t) (sign 44 ∷ spell_all ts) rest)
      ∙ ap (option_and_then (λ p. join_items (items (expression d) n) p (eat 44 p.1))) (reads t d after (omega arith) r.0 (omega arith) refl)
      ∙ ap (option_and_then (λ q. limited (pieces t ++ q.0) q.1)) (reads-all ts d n rest (omega arith) (omega (arith, some_lexeme t, length-append (spell t) (sign 44 ∷ spell_all ts))) r.1 (omega arith) e f)
      ∙ limited-fits (pieces t ++ pieces_all ts) rest c
