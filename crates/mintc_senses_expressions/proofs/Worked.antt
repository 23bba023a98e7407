-- Worked functions: the sense of a name, by computation.
use Rattle.std.proofs.Common.{◌≡◌, Some, None, codes, refl}
use Rattle.mintc_senses_expressions.specs.Transitions.{same_edges, other_edges, all_transitions}
use Rattle.mintc_senses_expressions.specs.Reading.{function_sense}

buffer : function_sense (codes "A") (codes "A") ≡ Some same_edges
buffer = refl

inverter : function_sense (codes "!A") (codes "A") ≡ Some other_edges
inverter = refl

inverter-behind : function_sense (codes "A'") (codes "A") ≡ Some other_edges
inverter-behind = refl

nand : function_sense (codes "!(A B)") (codes "A") ≡ Some other_edges
nand = refl

exclusive-or : function_sense (codes "A^B") (codes "A") ≡ Some all_transitions
exclusive-or = refl

twice-there : function_sense (codes "(A*B)+(A*!B)") (codes "A") ≡ Some same_edges
twice-there = refl

both-ways : function_sense (codes "(A*B)+(A*!B)") (codes "B") ≡ Some all_transitions
both-ways = refl

out-of-form : function_sense (codes "A B +") (codes "A") ≡ None
out-of-form = refl

not-there : function_sense (codes "!A") (codes "B") ≡ None
not-there = refl

neighbours-first : function_sense (codes "A B + C'") (codes "C") ≡ Some other_edges
neighbours-first = refl

inverted-twice : function_sense (codes "!!A | B & A''") (codes "A") ≡ Some same_edges
inverted-twice = refl

closed-first : function_sense (codes "A)") (codes "A") ≡ None
closed-first = refl

left-open : function_sense (codes "(A") (codes "A") ≡ None
left-open = refl
