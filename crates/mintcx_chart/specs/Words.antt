-- Kinds and times in words.
use Rattle.std.specs.Prelude.{ℕ, ℤ, pos, List, [], ◌++◌, codes}
use Rattle.mintc_fraction.specs.Ratio.{Ratio, over}
use Rattle.mintcx_amounts.specs.declared.unit.Unit.{Unit}
use Rattle.mintc_timing.specs.Design.{Design, phase_of}
use Rattle.mintcx_frame.specs.Ends.{time_text}
use Rattle.mintcx_frame.specs.Names.{phase_name}
use Rattle.mintcx_chart.specs.declared.lanes.Kind.{Kind}
use Rattle.mintcx_chart.specs.declared.lanes.Kind.TheVariants.{Latch, Flop, Input, Output, Clock}

-- the word of a kind
abbrev pub kind_word : Kind → List ℕ
kind_word Latch = codes "latch"
kind_word Flop = codes "flop"
kind_word Input = codes "input"
kind_word Output = codes "output"
kind_word Clock = []

-- the kind of an element, and its phase
abbrev pub kind_on_phase : Design → Kind → ℕ → List ℕ
kind_on_phase design kind l = kind_word kind ++ codes " on " ++ phase_name design (phase_of design l)

-- a time over a denominator, in femtoseconds
abbrev pub moment_of : ℤ → ℤ → Ratio
moment_of time den = over time den

-- the same in words, with its unit
abbrev pub moment_text : Unit → ℤ → ℤ → List ℕ
moment_text unit den time = time_text unit (moment_of time den)

-- a span of femtoseconds, with its unit
abbrev pub span_text : Unit → ℤ → List ℕ
span_text unit span = time_text unit (over span (pos 1))

-- a word, and a text behind it
abbrev pub word_and : List ℕ → List ℕ → List ℕ
word_and word text = word ++ codes " " ++ text
