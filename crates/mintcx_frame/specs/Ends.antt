-- The head and the foot of an answer.
use Rattle.std.specs.Prelude.{ℕ, pos, List, [], ◌∷◌, ◌++◌, codes, if◌then◌else◌, int_lt}
use Rattle.mintc_fraction.specs.Ratio.{Ratio}
use Rattle.mintcx_amounts.specs.declared.unit.Unit.{Unit}
use Rattle.mintcx_amounts.specs.declared.unit.Unit.TheVariants.{Femto, Pico, Nano}
use Rattle.mintcx_amounts.specs.Amounts.{amount_text}
use Rattle.mintcx_amounts.specs.Frequencies.{frequency_text}
use Rattle.mintcx_amounts.specs.Units.{unit_of, unit_word}
use Rattle.mintcx_manners.specs.declared.manners.TimeUnit.{TimeUnit}
use Rattle.mintcx_manners.specs.declared.manners.TimeUnit.TheVariants.{Auto, Fs, Ps, Ns}
use Rattle.mintcx_frame.specs.declared.view.View.{View}

-- the unit of the times of an answer: the one that is asked for, else the one that fits the cycle time
abbrev pub unit_for : TimeUnit → Ratio → Unit
unit_for Auto cycle = unit_of cycle
unit_for Fs cycle = Femto
unit_for Ps cycle = Pico
unit_for Ns cycle = Nano

-- an amount with its unit after a blank
abbrev pub time_text : Unit → Ratio → List ℕ
time_text unit amount = amount_text unit amount ++ 32 ∷ unit_word unit

-- the frequency of a cycle time behind it; a cycle time of 0 has none
abbrev pub rate_text : Ratio → List ℕ
rate_text cycle = if int_lt (pos 0) cycle.num then codes ", " ++ frequency_text cycle else []

-- what an answer is about, at the end of its first line
abbrev pub subject_text : List ℕ → List ℕ
subject_text subject = codes "  (" ++ subject ++ codes ")" ++ 10 ∷ []

-- the first line of an answer: its verdict, the cycle time, the frequency, and what it is about
abbrev pub head_text : List ℕ → Ratio → View → List ℕ
head_text verdict cycle view = verdict ++ codes "  cycle " ++ time_text (unit_for view.unit cycle) cycle
    ++ rate_text cycle ++ subject_text view.subject

-- a note behind the unit, where there is one
abbrev pub note_text : List ℕ → List ℕ
note_text [] = []
note_text (byte ∷ note) = codes "; " ++ byte ∷ note

-- the last line of an answer: the unit of its times, and a note
abbrev pub foot_text : Unit → List ℕ → List ℕ
foot_text unit note = codes "times in " ++ unit_word unit ++ note_text note ++ 10 ∷ []
