-- One or more with commas, as a loop reads them.
use Rattle.std.proofs.Common.{◌≡◌, ℕ, zero, suc, ◌<◌, ◌≤◌, List, [], ◌∷◌, ◌++◌, length, Option, Some, None, option_map, option_and_then, refl, sym, ap, ◌∙◌, arith, append_assoc}
use Rattle.mintc_verilog_expressions.specs.Lexemes.{Lexeme}
use Rattle.mintc_verilog_expressions.specs.Reading.{Read, eat}
use Rattle.mintc_verilog.specs.StatementPartReading.{listed, list_more, all_of, with_value}
use Rattle.mintc_verilog_expressions.proofs.SharedFound.{eat-some}

abbrev pub behind : {A : Type 0} → List A → List A × List Lexeme → List A × List Lexeme
behind out q = (out ++ q.0, q.1)

-- so much was read of what there was
pub record Listing {A : Type 0} (read : Read A) (all : List Lexeme) (out : List A) (left : List Lexeme) : Type 0 where
  pub turns : ℕ
  pub enough : length left ≤ turns
  pub whole : all_of read all ≡ option_map (behind out) (listed read turns left)

front-none : {A : Type 0} (r : Option (List A × List Lexeme)) → r ≡ option_map (behind []) r
front-none r = grind arith

pub list-begun : {A : Type 0} (read : Read A) (ls : List Lexeme) (out : List A) → out ≡ [] → Listing read ls out ls
list-begun read ls out e = record {
  turns = length ls;
  enough = omega arith;
  whole = front-none (all_of read ls) ∙ ap (λ o. option_map (behind o) (all_of read ls)) (sym e);
}

listed-none : {A : Type 0} (read : Read A) (n : ℕ) (ls : List Lexeme) → read ls ≡ None → listed read n ls ≡ None
unfolding listed
listed-none read zero ls e = refl
listed-none read (suc n) ls e = ap (option_and_then (λ p. list_more (listed read n) p (eat 44 p.1))) e

pub list-none : {A : Type 0} (read : Read A) (all : List Lexeme) (out : List A) (left : List Lexeme) → Listing read all out left → read left ≡ None → all_of read all ≡ None
list-none read all out left h e = h.whole ∙ ap (option_map (behind out)) (listed-none read h.turns left e)

-- one turn, with turns enough
listed-turn : {A : Type 0} (read : Read A) (n : ℕ) (ls : List Lexeme) (p : A × List Lexeme) → 0 < n → read ls ≡ Some p →
    (m : ℕ) × (n ≡ suc m) × (listed read n ls ≡ list_more (listed read m) p (eat 44 p.1))
unfolding listed
listed-turn read zero ls p h e = absurd (omega arith)
listed-turn read (suc n) ls p h e = (n, refl, ap (option_and_then (λ p. list_more (listed read n) p (eat 44 p.1))) e)

pub list-last : {A : Type 0} (read : Read A) (all : List Lexeme) (out : List A) (left : List Lexeme) (a : A) (rest : List Lexeme) → Listing read all out left →
    read left ≡ Some (a, rest) → length rest < length left → eat 44 rest ≡ None → all_of read all ≡ Some (out ++ a ∷ [], rest)
list-last read all out left a rest h e g f =
    let turn = listed-turn read h.turns left (a, rest) (omega (arith, h.enough)) e in
    h.whole ∙ ap (option_map (behind out)) (turn.2 ∙ ap (list_more (listed read turn.0) (a, rest)) f)

front-more : {A : Type 0} (out : List A) (a : A) (more : Read (List A)) (rest : List Lexeme) (r : Option (List A × List Lexeme)) → more rest ≡ r →
    option_map (behind out) (option_map (with_value (λ (others : List A). a ∷ others)) r) ≡ option_map (behind (out ++ a ∷ [])) r
front-more out a more rest r e = grind (arith, append_assoc)

pub list-more : {A : Type 0} (read : Read A) (all : List Lexeme) (out : List A) (left : List Lexeme) (a : A) (mid rest : List Lexeme) → Listing read all out left →
    read left ≡ Some (a, mid) → length mid < length left → eat 44 mid ≡ Some rest → Listing read all (out ++ a ∷ []) rest
list-more read all out left a mid rest h e g f =
    let turn = listed-turn read h.turns left (a, mid) (omega (arith, h.enough)) e in
    record {
      turns = turn.0;
      enough = omega (arith, h.enough, turn.1, g, ap length (eat-some 44 mid rest f));
      whole =
          h.whole ∙ ap (option_map (behind out)) (turn.2 ∙ ap (list_more (listed read turn.0) (a, mid)) f)
          ∙ front-more out a (listed read turn.0) rest (listed read turn.0 rest) refl;
    }

pub list-shrinks : (left mid rest : List Lexeme) → length mid < length left → eat 44 mid ≡ Some rest → length rest < length left
list-shrinks left mid rest g f = omega (arith, g, ap length (eat-some 44 mid rest f))
