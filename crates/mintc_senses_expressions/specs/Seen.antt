-- What the code holds, as the definitions see it.
use Rattle.std.specs.Prelude.{ℕ, List, map, reverse, drop, slice_range, Option, option_map}
use Rattle.mintc_senses_expressions.specs.declared.transitions.Transitions.{Transitions}
use Rattle.mintc_senses_expressions.specs.declared.signs.Sign.{Sign}
use Rattle.mintc_senses_expressions.specs.declared.levels.Level.{Level as Held}
use Rattle.mintc_senses_expressions.specs.declared.readings.Reading.{Reading}
use Rattle.mintc_senses_expressions.specs.Expressions.{sense}
use Rattle.mintc_senses_expressions.specs.Grammar.{of_word}
use Rattle.mintc_senses_expressions.specs.Symbols.{Symbol, symbols_after}
use Rattle.mintc_senses_expressions.specs.Reading.{Level, State, on_senses, level_step, read, among}

-- a level
abbrev pub level_seen : Held → Level Transitions
level_seen l = record {
  sums = l.sums;
  products = l.products;
  differing = l.differing;
  inverts = l.inverts;
  operand = l.operand;
}

-- a level and those around it
abbrev pub seen : Reading → State Transitions
seen r = among (reverse (map level_seen r.outside.items)) (level_seen r.level)

-- behind a sign that is no parenthesis
abbrev pub operated : Sign → State Transitions → Option (State Transitions)
operated k s = option_map (among s.outside) (level_step on_senses k s.level)

-- the sense of a name in a word
abbrev pub in_word : List ℕ → List ℕ → Transitions
in_word n w = sense n (of_word w)

-- what symbols come to for a name
abbrev pub read_for : List ℕ → List Symbol → State Transitions → Option Transitions
read_for n ys s = read on_senses (in_word n) ys s

-- the same of a text from a place on, where a word has begun before it
abbrev pub read_from : List ℕ → List ℕ → ℕ → ℕ → State Transitions → Option Transitions
read_from n text from place s = read_for n (symbols_after (slice_range text from place) (drop place text)) s
