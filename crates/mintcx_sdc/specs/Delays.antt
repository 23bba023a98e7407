-- The delays of listed ports: from the start of an input's phase, and before the end of an output's.
use Rattle.std.specs.Prelude.{ℕ, ◌-◌, ℤ, neg_ℤ, Bool, not, if◌then◌else◌, List, [], ◌∷◌, ◌++◌, codes}
use Rattle.mintc_clock.specs.declared.clock.Listed.{Listed}
use Rattle.mintc_clock.specs.declared.clock.PhaseDef.{PhaseDef}
use Rattle.mintcx_sdc.specs.declared.delays.Way.{Way}
use Rattle.mintcx_sdc.specs.declared.delays.Way.TheVariants.{In, Out}
use Rattle.mintcx_sdc.specs.Clocks.{clock_place, phase_at}
use Rattle.mintcx_sdc.specs.Times.{braced, ports_text, time_text}

-- the command for the delays of a port, to which data comes or from which it goes
abbrev pub way_word : Way → List ℕ
way_word In = codes "set_input_delay -clock "
way_word Out = codes "set_output_delay -clock "

-- Whether the edge that delays count from is one at which the phase's port falls: the start of the phase of an input,
-- the end of that of an output. A phase that is active at the high level starts as its port rises.
abbrev pub falls : Way → Bool → Bool
falls In high = not high
falls Out high = high

-- the word for such an edge; a rising one needs none
abbrev pub edge_text : Bool → List ℕ
edge_text falls = if falls then codes " -clock_fall" else []

-- the name of the clock on the port of the phase at a place
abbrev pub clock_name : List PhaseDef → ℕ → List ℕ
clock_name phases at = (phase_at phases (clock_place phases at)).name

-- a command, and the edge of the phase at a place that its delay counts from
abbrev pub from_text : List PhaseDef → Way → ℕ → List ℕ
from_text phases way at =
    way_word way ++ braced (clock_name phases at) ++ edge_text (falls way (phase_at phases at).high)

-- a delay with its kind, and its port
abbrev pub at_text : List ℕ → ℤ → List ℕ → List ℕ
at_text kind time port = kind ++ time_text time ++ ports_text port

-- the line of a delay of a listed port, whose phase is counted from 1
abbrev pub delay_line : List PhaseDef → Way → Listed → List ℕ → ℤ → List ℕ
delay_line phases way listed kind time = from_text phases way (listed.phase - 1) ++ at_text kind time listed.port

-- the lines of an input: the least and the greatest delay of its data after the start of its phase
abbrev pub input_lines : List PhaseDef → Listed → List (List ℕ)
input_lines phases l =
    delay_line phases In l (codes " -min ") l.min ∷ delay_line phases In l (codes " -max ") l.max ∷ []

-- the line of an output's hold, below 0 where data has to stay after the end of the phase
abbrev pub hold_lines : List PhaseDef → Listed → List (List ℕ)
hold_lines phases l = if l.has_hold then delay_line phases Out l (codes " -min ") (neg_ℤ l.hold) ∷ [] else []

-- the lines of an output: its hold, where it has one, and its setup, by which data has to come before that end
abbrev pub output_lines : List PhaseDef → Listed → List (List ℕ)
output_lines phases l = hold_lines phases l ++ delay_line phases Out l (codes " -max ") l.setup ∷ []
