-- Clocks: after which phase the clock of a port is called, and when the port rises and falls. Phases stand at places
-- from 0.
use Rattle.std.specs.Prelude.{ℕ, ◌==◌, ℤ, pos, ◌+ℤ◌, ◌-ℤ◌, Bool, true, ◌&&◌, if◌then◌else◌, List, [], ◌∷◌, ◌++◌, length}
use Rattle.std.specs.Prelude.{bytes_eq, codes, find, slice_index_or, unwrap_or}
use Rattle.std.specs.Int.{int_rem_euclid}
use Rattle.std.specs.List.{range_with_len}
use Rattle.mintc_timing.specs.declared.clocking.Schedule.{Schedule}
use Rattle.mintc_clock.specs.declared.clock.PhaseDef.{PhaseDef}
use Rattle.mintcx_sdc.specs.Times.{braced, ports_text, time_text}

-- a phase by its place; past the last one stands one without a name
abbrev pub no_phase : PhaseDef
no_phase = record { name = []; port = []; high = true }

abbrev pub phase_at : List PhaseDef → ℕ → PhaseDef
phase_at phases at = slice_index_or phases at no_phase

-- whether a phase is active while a port is high
abbrev pub is_high_on : List ℕ → PhaseDef → Bool
is_high_on port phase = phase.high && bytes_eq phase.port port

-- The place of the phase after which the clock on a phase's port is called: the first one that is active while that
-- port is high, and the phase itself where there is none.
abbrev pub is_high_at : List PhaseDef → List ℕ → ℕ → Bool
is_high_at phases port place = is_high_on port (phase_at phases place)

abbrev pub clock_place : List PhaseDef → ℕ → ℕ
clock_place phases at =
    unwrap_or (find (is_high_at phases (phase_at phases at).port) (range_with_len 0 (length phases))) at

-- when the phase at a place starts, and how wide it is
abbrev pub start_at : Schedule → ℕ → ℤ
start_at s at = slice_index_or s.starts at (pos 0)

abbrev pub width_at : Schedule → ℕ → ℤ
width_at s at = slice_index_or s.widths at (pos 0)

-- a time as a moment of the cycle, from 0 to below the cycle time
abbrev pub moment : Schedule → ℤ → ℤ
moment s time = int_rem_euclid time s.cycle

-- When the port of a phase rises: as the phase starts, or, where the phase is active at the low level, as it ends.
abbrev pub rise_of : Schedule → Bool → ℕ → ℤ
rise_of s high at = moment s (if high then start_at s at else start_at s at +ℤ width_at s at)

-- how long it is high from then on: as wide as the phase is, or the rest of the cycle
abbrev pub span_of : Schedule → Bool → ℕ → ℤ
span_of s high at = if high then width_at s at else s.cycle -ℤ width_at s at

-- and when it falls
abbrev pub fall_of : Schedule → Bool → ℕ → ℤ
fall_of s high at = rise_of s high at +ℤ span_of s high at

-- the name of a clock and its period
abbrev pub clock_text : List ℕ → ℤ → List ℕ
clock_text name cycle = codes "create_clock -name " ++ braced name ++ codes " -period " ++ time_text cycle

-- when it rises and when it falls
abbrev pub wave_text : ℤ → ℤ → List ℕ
wave_text rise fall = codes " -waveform {" ++ time_text rise ++ codes " " ++ time_text fall

-- the line of the clock that is called after a phase
abbrev pub clock_line : PhaseDef → ℤ → ℤ → ℤ → List ℕ
clock_line phase cycle rise fall =
    clock_text phase.name cycle ++ wave_text rise fall ++ codes "}" ++ ports_text phase.port

-- the same by the times of the phase at a place
abbrev pub own_line : PhaseDef → Schedule → ℕ → List ℕ
own_line phase s at = clock_line phase s.cycle (rise_of s phase.high at) (fall_of s phase.high at)

-- the lines of the phase at a place: the one of its clock, if that is called after it
abbrev pub clock_lines : List PhaseDef → Schedule → ℕ → List (List ℕ)
clock_lines phases s at = if clock_place phases at == at then own_line (phase_at phases at) s at ∷ [] else []
