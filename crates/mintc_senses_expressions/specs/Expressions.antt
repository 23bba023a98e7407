-- Logic expressions: their values, and the sense of a name in them.
use Rattle.std.specs.Prelude.{◌≡◌, ℕ, Bool, true, not, ◌&&◌, ◌||◌, if◌then◌else◌, List, bytes_eq}
use Rattle.mintc_senses_expressions.specs.declared.transitions.Transitions.{Transitions}
use Rattle.mintc_senses_expressions.specs.Transitions.{has, no_transitions, same_edges, turned, together, all_if_some}

-- A name, a constant, an inversion, or two expressions joined by and, by or, by exclusive or.
pub data Expression : Type 0 where
  named : List ℕ → Expression
  fixed : Bool → Expression
  inverse : Expression → Expression
  both : Expression → Expression → Expression
  either : Expression → Expression → Expression
  exclusive : Expression → Expression → Expression

-- the value, where each name has one
abbrev pub value_of : (List ℕ → Bool) → Expression → Bool
value_of values (named n) = values n
value_of values (fixed b) = b
value_of values (inverse e) = not (value_of values e)
value_of values (both e f) = value_of values e && value_of values f
value_of values (either e f) = value_of values e || value_of values f
value_of values (exclusive e f) = if value_of values e then not (value_of values f) else value_of values f

-- The sense of a name: where it stands each edge makes its own kind, an inversion turns them, those of all places are
-- put together, and under an exclusive or each edge may make both.
abbrev pub sense : List ℕ → Expression → Transitions
sense n (named m) = if bytes_eq m n then same_edges else no_transitions
sense n (fixed b) = no_transitions
sense n (inverse e) = turned (sense n e)
sense n (both e f) = together (sense n e) (sense n f)
sense n (either e f) = together (sense n e) (sense n f)
sense n (exclusive e f) = all_if_some (together (sense n e) (sense n f))

-- these values, but for one name, which has this one
abbrev pub changed : (List ℕ → Bool) → List ℕ → Bool → List ℕ → Bool
changed values n v m = if bytes_eq m n then v else values m

-- Transitions cover what an expression does when one name alone changes: whatever the other names' values are, where
-- the name goes from one value to the other, to `i`, and the expression's value goes to `o` with it, the transition
-- from `i` to `o` is one of them.
abbrev pub CoverChanges : List ℕ → Expression → Transitions → Type 0
CoverChanges n e t = (values : List ℕ → Bool) (i o : Bool) → value_of (changed values n (not i)) e ≡ not o →
    value_of (changed values n i) e ≡ o → has t i o ≡ true
