-- Expressions with commas, as a loop reads them, and what stands behind `{NUM`.
use Rattle.std.proofs.Common.{◌≡◌, ℕ, zero, suc, ◌+◌, ◌-◌, ◌/◌, ◌<◌, ◌≤◌, false, nat_le, List, [], ◌++◌, length, Option, Some, None, option_map, option_and_then, refl, sym, ap, ◌∙◌, arith, length-append, append_assoc, append-nil, add-one}
use Rattle.std.proofs.lemmas.Bool.Decides.{nat_tests}
use Rattle.std.proofs.Math.Nat.{mul-le-mul_left}
use Rattle.mintc_verilog_expressions.specs.Lexemes.{Lexeme}
use Rattle.mintc_verilog_expressions.specs.Expressions.{spell, repeated}
use Rattle.mintc_verilog_expressions.specs.Reading.{Read, Pieces, eat, plain_at, one_piece, items, join_items, repeat_end, expression, innermost, inside, turns}
use Rattle.mintc_verilog_expressions.proofs.SharedWritten.{some_lexeme, braced, limited-fits}
use Rattle.mintc_verilog_expressions.proofs.SharedFound.{eat-some, found, items-found}
use Rattle.mintc_verilog_expressions.proofs.Front.{with_front, limited-none, front-join, front-full, items-none, items-turn}

-- so much was read of what there was
pub record Listing (d : ℕ) (all : List Lexeme) (out : Pieces) (left : List Lexeme) : Type 0 where
  pub turns : ℕ
  pub enough : length left ≤ turns
  pub few : length out ≤ 65536
  pub whole : items (expression d) (length all) all ≡ with_front out (items (expression d) turns left)

pub expression-shrinks : (d : ℕ) (ls : List Lexeme) (p : Pieces × List Lexeme) → expression d ls ≡ Some p → length p.1 < length ls
expression-shrinks d ls p e =
    let f = found d ls p e in
    omega (arith, ap length f.written, length-append (spell f.tree) p.1, some_lexeme f.tree)

front-none : (d n : ℕ) (ls : List Lexeme) → items (expression d) n ls ≡ with_front [] (items (expression d) n ls)
front-none d n ls = by (items (expression d) n ls) refl
  where
    by : (r : Option (Pieces × List Lexeme)) → items (expression d) n ls ≡ r → r ≡ with_front [] r
    by None e = refl
    by (Some q) e = sym (limited-fits q.0 q.1 (items-found d (expression d) (found d) n ls q e).count)

pub listing-begun : (d : ℕ) (ls : List Lexeme) (out : Pieces) → out ≡ [] → Listing d ls out ls
listing-begun d ls out e = record {
  turns = length ls;
  enough = omega arith;
  few = omega (arith, ap length e);
  whole = front-none d (length ls) ls ∙ ap (λ (o : Pieces). with_front o (items (expression d) (length ls) ls)) (sym e);
}

pub listing-none : (d : ℕ) (all : List Lexeme) (out : Pieces) (left : List Lexeme) → Listing d all out left → expression d left ≡ None → items (expression d) (length all) all ≡ None
listing-none d all out left h e = h.whole ∙ ap (with_front out) (items-none d h.turns left e)

pub listing-full : (d : ℕ) (all : List Lexeme) (out : Pieces) (left : List Lexeme) (p : Pieces) (rest : List Lexeme) → Listing d all out left →
    expression d left ≡ Some (p, rest) → 65536 - length out < length p → items (expression d) (length all) all ≡ None
listing-full d all out left p rest h e g =
    let turn = items-turn d h.turns left (p, rest) h.enough e in
    let many : nat_le (length (out ++ p)) 65536 ≡ false = (grind (arith, nat_tests, h.few, length-append out p)) in
    h.whole ∙ ap (with_front out) turn.2 ∙ by (items (expression d) turn.0) (eat 44 rest) many
  where
    by : (next : Read Pieces) (o : Option (List Lexeme)) → nat_le (length (out ++ p)) 65536 ≡ false → with_front out (join_items next (p, rest) o) ≡ None
    by next None many = limited-none (out ++ p) rest many
    by next (Some l) many = front-join out p (next l) ∙ front-full out p (next l) many

pub listing-last : (d : ℕ) (all : List Lexeme) (out : Pieces) (left : List Lexeme) (p : Pieces) (rest : List Lexeme) → Listing d all out left →
    expression d left ≡ Some (p, rest) → length p ≤ 65536 - length out → eat 44 rest ≡ None → items (expression d) (length all) all ≡ Some (out ++ p, rest)
listing-last d all out left p rest h e g f =
    let turn = items-turn d h.turns left (p, rest) h.enough e in
    h.whole ∙ ap (with_front out) (turn.2 ∙ ap (join_items (items (expression d) turn.0) (p, rest)) f)
    ∙ limited-fits (out ++ p) rest (omega (arith, h.few, length-append out p))

pub listing-more : (d : ℕ) (all : List Lexeme) (out : Pieces) (left : List Lexeme) (p : Pieces) (mid rest : List Lexeme) → Listing d all out left →
    expression d left ≡ Some (p, mid) → length p ≤ 65536 - length out → eat 44 mid ≡ Some rest → Listing d all (out ++ p) rest
listing-more d all out left p mid rest h e g f =
    let turn = items-turn d h.turns left (p, mid) h.enough e in
    record {
      turns = turn.0;
      enough = omega (arith, h.enough, turn.1, expression-shrinks d left (p, mid) e, ap length (eat-some 44 mid rest f));
      few = omega (arith, h.few, length-append out p);
      whole =
          h.whole ∙ ap (with_front out) (turn.2 ∙ ap (join_items (items (expression d) turn.0) (p, mid)) f)
          ∙ front-join out p (items (expression d) turn.0 rest);
    }

pub listing-shrinks : (d : ℕ) (left : List Lexeme) (p : Pieces) (mid rest : List Lexeme) → expression d left ≡ Some (p, mid) → eat 44 mid ≡ Some rest → length rest < length left
listing-shrinks d left p mid rest e f = omega (arith, expression-shrinks d left (p, mid) e, ap length (eat-some 44 mid rest f))

pub expression-zero : (d : ℕ) (ls : List Lexeme) → d ≡ 0 → expression d ls ≡ one_piece (plain_at ls)
unfolding expression
expression-zero d ls e = ap (λ n. expression n ls) e

pub expression-braced : (d : ℕ) (ls rest : List Lexeme) → 0 < d → eat 123 ls ≡ Some rest → expression d ls ≡ inside (d - 1) rest
expression-braced zero ls rest h e = absurd (omega arith)
expression-braced (suc d) ls rest h e =
    let down : suc d - 1 ≡ d = omega arith in
    ap (expression (suc d)) (eat-some 123 ls rest e) ∙ braced d rest ∙ ap (λ n. inside n rest) (sym down)

pub innermost-zero : (d : ℕ) (ls : List Lexeme) → d ≡ 0 → innermost d ls ≡ None
unfolding innermost
innermost-zero d ls e = ap (λ n. innermost n ls) e

innermost-more : (d : ℕ) (ls : List Lexeme) → 0 < d → innermost d ls ≡ items (expression (d - 1)) (length ls) ls
unfolding innermost
innermost-more zero ls h = absurd (omega arith)
innermost-more (suc d) ls h = let down : suc d - 1 ≡ d = omega arith in ap (λ n. items (expression n) (length ls) ls) (sym down)

pub turns-zero : (d n : ℕ) (ls rest : List Lexeme) → d ≡ 0 → eat 123 ls ≡ Some rest → turns d n ls ≡ None
turns-zero d n ls rest h e = ap (λ o. option_and_then (repeat_end n) (option_and_then (innermost d) o)) e ∙ ap (option_and_then (repeat_end n)) (innermost-zero d rest h)

pub turns-more : (d n : ℕ) (ls rest : List Lexeme) (r : Option (Pieces × List Lexeme)) → 0 < d → eat 123 ls ≡ Some rest → items (expression (d - 1)) (length rest) rest ≡ r →
    turns d n ls ≡ option_and_then (repeat_end n) r
turns-more d n ls rest r h e f =
    ap (λ o. option_and_then (repeat_end n) (option_and_then (innermost d) o)) e ∙ ap (option_and_then (repeat_end n)) (innermost-more d rest h ∙ f)

pub repeat-many : (n : ℕ) (p : Pieces × List Lexeme) → 0 < n → 65536 / n < length p.0 → repeat_end n p ≡ None
repeat-many n p h g =
    let more : 65536 / n + 1 ≤ length p.0 = omega arith in
    grind (arith, nat_tests, mul-le-mul_left n more)

pub repeat-few : (n : ℕ) (p : Pieces × List Lexeme) → 0 < n → length p.0 ≤ 65536 / n → repeat_end n p ≡ option_map (λ rest. (repeated n p.0, rest)) (option_and_then (eat 125) (eat 125 p.1))
repeat-few n p h g = grind (arith, nat_tests, mul-le-mul_left n g)

abbrev pub back : ℕ → Pieces → List Lexeme → Pieces × List Lexeme
back n p rest = (repeated n p, rest)

pub closes : (n : ℕ) (p : Pieces) (a b c : List Lexeme) → eat 125 a ≡ Some b → eat 125 b ≡ Some c →
    option_map (back n p) (option_and_then (eat 125) (eat 125 a)) ≡ Some (back n p c)
closes n p a b c e f = ap (λ o. option_map (back n p) (option_and_then (eat 125) o)) e ∙ ap (option_map (back n p)) f

pub stays-open : (n : ℕ) (p : Pieces) (a b : List Lexeme) → eat 125 a ≡ Some b → eat 125 b ≡ None →
    option_map (back n p) (option_and_then (eat 125) (eat 125 a)) ≡ None
stays-open n p a b e f = ap (λ o. option_map (back n p) (option_and_then (eat 125) o)) e ∙ ap (option_map (back n p)) f

pub stays-more : (n : ℕ) (p : Pieces) (a : List Lexeme) → eat 125 a ≡ None → option_map (back n p) (option_and_then (eat 125) (eat 125 a)) ≡ None
stays-more n p a e = ap (λ o. option_map (back n p) (option_and_then (eat 125) o)) e

turns-behind : (n : ℕ) (ps : Pieces) → repeated n ps ++ ps ≡ ps ++ repeated n ps
turns-behind zero ps = sym (append-nil ps)
turns-behind (suc n) ps = append_assoc ps (repeated n ps) ps ∙ ap (λ l. ps ++ l) (turns-behind n ps)

pub repeated-more : (n : ℕ) (ps : Pieces) → repeated n ps ++ ps ≡ repeated (n + 1) ps
repeated-more n ps = turns-behind n ps ∙ ap (λ k. repeated k ps) (sym (add-one n))
