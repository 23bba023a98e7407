-- The loop over expressions with commas: what was read so far stands in front of what is still to be read.
use Rattle.std.proofs.Common.{◌≡◌, ℕ, zero, suc, ◌≤◌, false, nat_le, List, [], ◌∷◌, ◌++◌, length, Option, Some, None, option_and_then, refl, ap, arith, append_assoc, length-append}
use Rattle.std.proofs.lemmas.Bool.Decides.{nat_tests}
use Rattle.mintc_verilog_expressions.specs.Lexemes.{Lexeme}
use Rattle.mintc_verilog_expressions.specs.Reading.{Pieces, eat, limited, items, join_items, expression}
use Rattle.mintc_verilog_expressions.proofs.SharedWritten.{braceless}

abbrev pub with_front : Pieces → Option (Pieces × List Lexeme) → Option (Pieces × List Lexeme)
with_front out None = None
with_front out (Some q) = limited (out ++ q.0) q.1

-- above the limit nothing is read
pub limited-none : (ps : Pieces) (ls : List Lexeme) → nat_le (length ps) 65536 ≡ false → limited ps ls ≡ None
limited-none ps ls e = grind arith

-- the step: the limit of an inner part is the limit of the whole
pub front-join : (out p : Pieces) (r : Option (Pieces × List Lexeme)) → with_front out (option_and_then (λ q. limited (p ++ q.0) q.1) r) ≡ with_front (out ++ p) r
front-join out p r = grind (arith, nat_tests, append_assoc, length-append)

-- where the front alone is above the limit, nothing is read
pub front-full : (out p : Pieces) (r : Option (Pieces × List Lexeme)) → nat_le (length (out ++ p)) 65536 ≡ false → with_front (out ++ p) r ≡ None
front-full out p r e = grind (arith, nat_tests, length-append)

pub items-none : (d n : ℕ) (ls : List Lexeme) → expression d ls ≡ None → items (expression d) n ls ≡ None
unfolding items
items-none d zero ls e = refl
items-none d (suc n) ls e = ap (option_and_then (λ p. join_items (items (expression d) n) p (eat 44 p.1))) e

-- one expression, with turns enough
pub items-turn : (d n : ℕ) (ls : List Lexeme) (p : Pieces × List Lexeme) → length ls ≤ n → expression d ls ≡ Some p →
    (m : ℕ) × (n ≡ suc m) × (items (expression d) n ls ≡ join_items (items (expression d) m) p (eat 44 p.1))
unfolding items
items-turn d zero [] p h e = let none : expression d [] ≡ None = braceless d [] refl in absurd (cc)
items-turn d zero (l ∷ ls) p h e = absurd (omega arith)
items-turn d (suc n) ls p h e = (n, refl, ap (option_and_then (λ p. join_items (items (expression d) n) p (eat 44 p.1))) e)
