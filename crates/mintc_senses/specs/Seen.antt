-- What the code holds, as the definitions see it.
use Rattle.std.specs.Prelude.{ℕ, if◌then◌else◌, List, map, drop, slice_range, Option, Some, None, option_map}
use Rattle.std.specs.Prelude.{bytes_eq, Vec}
use Rattle.std.specs.Global.{Global}
use Rattle.mintc_senses_expressions.specs.declared.transitions.Transitions.{Transitions}
use Rattle.mintc_senses_expressions.specs.Transitions.{all_transitions}
use Rattle.mintc_liberty_tokens.specs.Tokens.{Token}
use Rattle.mintc_liberty_tokens.specs.Statements.{Statements, none, front}
use Rattle.mintc_senses.specs.declared.words.Cut.{Cut}
use Rattle.mintc_senses.specs.Words.{words_after}

-- the words of a text from a place on, where one has begun before it
abbrev pub words_from : Cut → List ℕ → ℕ → ℕ → List (List ℕ)
words_from k text from place = words_after k (slice_range text from place) (drop place text)

-- the statements that begin somewhere, or none
abbrev pub inside_or_none : ℕ → Option (List Token) → Statements
inside_or_none room None = none
inside_or_none room (Some ts) = (front room ts).statements

-- the statements inside the cells that were found
abbrev pub inside_seen : Option (List Token) → Option Statements
inside_seen o = option_map (λ ts. (front 62 ts).statements) o

-- the sense of a pin of a latch or flop, by that of the data pin
abbrev pub from_data : List ℕ → Transitions → List ℕ → Transitions
from_data d t a = if bytes_eq a d then t else all_transitions

-- the sense of any pin of a clock cell
abbrev pub any_sense : List ℕ → Transitions
any_sense a = all_transitions

-- the rows of a cell
abbrev pub rows_seen : List (Vec Transitions Global) → List (List Transitions)
rows_seen rs = map (λ r. r.items) rs

-- the rows of all cells
abbrev pub senses_seen : List (Vec (Vec Transitions Global) Global) → List (List (List Transitions))
senses_seen cs = map (λ c. rows_seen c.items) cs
