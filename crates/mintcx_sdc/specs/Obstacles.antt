-- What of a clock and a schedule SDC can't say.
use Rattle.std.specs.Prelude.{ℕ, ◌+◌, ◌==◌, ℤ, pos, ◌+ℤ◌, ◌-ℤ◌, int_lt, map, Bool, ◌||◌, ◌&&◌}
use Rattle.std.specs.Prelude.{if◌then◌else◌, List, [], ◌∷◌}
use Rattle.std.specs.Prelude.{Option, Some, None, option_map, length, find, slice_index_or}
use Rattle.std.specs.Option.{option_or}
use Rattle.std.specs.Ordering.{int_eq}
use Rattle.std.specs.List.{list_any, range_with_len}
use Rattle.mintc_timing.specs.declared.clocking.Schedule.{Schedule}
use Rattle.mintc_clock.specs.declared.clock.Clock.{Clock}
use Rattle.mintc_clock.specs.declared.clock.Listed.{Listed}
use Rattle.mintc_clock.specs.declared.clock.PhaseDef.{PhaseDef}
use Rattle.mintcx_sdc.specs.declared.obstacles.Obstacle.{Obstacle}
use Rattle.mintcx_sdc.specs.declared.obstacles.Window.{Window}
use Rattle.mintcx_sdc.specs.declared.obstacles.Obstacle.TheVariants.{Denominator, NoCycle, PhaseName, PhasePort, Start}
use Rattle.mintcx_sdc.specs.declared.obstacles.Obstacle.TheVariants.{Width, Levels, Input, Output}
use Rattle.mintcx_sdc.specs.Clocks.{clock_place, moment, phase_at, start_at, width_at}

-- a byte that has a meaning in a pattern, or in braces, of Tcl: `*`, `?`, `\`, `{` or `}`
abbrev pub is_special : ℕ → Bool
is_special byte = byte == 42 || byte == 63 || byte == 92 || byte == 123 || byte == 125

-- whether a name has such a byte
abbrev pub has_special : List ℕ → Bool
has_special name = list_any is_special name

-- of all times: they aren't whole femtoseconds, or the cycle time is 0
abbrev pub scale_obstacle : Schedule → Option Obstacle
scale_obstacle s = if int_eq s.den (pos 1)
    then (if int_eq s.cycle (pos 0) then Some NoCycle else None)
    else Some (Denominator s.den)

-- of the names of the phase at a place
abbrev pub name_obstacle : PhaseDef → ℕ → Option Obstacle
name_obstacle phase at = if has_special phase.name then Some (PhaseName (at + 1)) else
    if has_special phase.port then Some (PhasePort (at + 1)) else None

-- of its times: it starts after the cycle, or is wider
abbrev pub start_obstacle : Schedule → ℕ → Option Obstacle
start_obstacle s at = if int_lt (pos 0) (start_at s at -ℤ s.cycle)
    then Some (Start (at + 1) (start_at s at -ℤ s.cycle)) else None

abbrev pub width_obstacle : Schedule → ℕ → Option Obstacle
width_obstacle s at = if int_lt (pos 0) (width_at s at -ℤ s.cycle)
    then Some (Width (at + 1) (width_at s at -ℤ s.cycle)) else None

abbrev pub time_obstacle : Schedule → ℕ → Option Obstacle
time_obstacle s at = option_or (start_obstacle s at) (width_obstacle s at)

-- how long after the phase at one place ends that at another one starts, also as a moment of the cycle
abbrev pub since_end : Schedule → ℕ → ℕ → ℤ
since_end s high low = start_at s low -ℤ start_at s high -ℤ width_at s high

abbrev pub late_by : Schedule → ℕ → ℕ → ℤ
late_by s high low = moment s (since_end s high low)

-- what of the cycle the two leave
abbrev pub rest_of : Schedule → ℕ → ℕ → ℤ
rest_of s high low = s.cycle -ℤ width_at s high -ℤ width_at s low

-- Of two phases on the levels of one port: the port is low from where the first ends to where it starts again, and the
-- second isn't active just then.
abbrev pub is_complement : ℤ → ℤ → Bool
is_complement late rest = int_eq late (pos 0) && int_eq rest (pos 0)

-- from when to when the phase at a place is active
abbrev pub window_of : Schedule → ℕ → Window
window_of s at = record { from = start_at s at; to = start_at s at +ℤ width_at s at }

abbrev pub level_obstacle : Schedule → ℕ → ℕ → Option Obstacle
level_obstacle s high low = if is_complement (late_by s high low) (rest_of s high low)
    then None
    else Some (Levels (high + 1) (low + 1) (late_by s high low) (window_of s high) (window_of s low))

-- of the clock of the phase at a place, where it is called after another one
abbrev pub clock_obstacle : List PhaseDef → Schedule → ℕ → Option Obstacle
clock_obstacle phases s at =
    if clock_place phases at == at then None else level_obstacle s (clock_place phases at) at

-- of the phase at a place: of its names, of its times, of its clock
abbrev pub times_obstacle : List PhaseDef → Schedule → ℕ → Option Obstacle
times_obstacle phases s at = option_or (time_obstacle s at) (clock_obstacle phases s at)

abbrev pub phase_obstacle : List PhaseDef → Schedule → ℕ → Option Obstacle
phase_obstacle phases s at = option_or (name_obstacle (phase_at phases at) at) (times_obstacle phases s at)

-- the first that comes of some places
abbrev pub first_of : {X : Type 0} → (ℕ → Option X) → List ℕ → Option X
first_of f [] = None
first_of f (at ∷ places) = option_or (f at) (first_of f places)

-- of all phases, in their order
abbrev pub phases_obstacle : List PhaseDef → Schedule → Option Obstacle
phases_obstacle phases s = first_of (phase_obstacle phases s) (range_with_len 0 (length phases))

-- the place of the first listed port whose name has a special byte
abbrev pub is_special_at : List Listed → ℕ → Bool
is_special_at ports at = has_special (slice_index_or (map (λ (l : Listed). l.port) ports) at [])

abbrev pub special_port : List Listed → Option ℕ
special_port ports = find (is_special_at ports) (range_with_len 0 (length ports))

-- of the listed ports: inputs first
abbrev pub output_obstacle : List Listed → Option Obstacle
output_obstacle outputs = option_map (λ at. Output (at + 1)) (special_port outputs)

abbrev pub ports_obstacle : List Listed → List Listed → Option Obstacle
ports_obstacle inputs outputs =
    option_or (option_map (λ at. Input (at + 1)) (special_port inputs)) (output_obstacle outputs)

-- The first thing in the way of a schedule in SDC: of all times, of the phases, of the listed ports.
abbrev pub parts_obstacle : Clock → Schedule → Option Obstacle
parts_obstacle clock s = option_or (phases_obstacle clock.phases s) (ports_obstacle clock.inputs clock.outputs)

abbrev pub obstacle_in : Clock → Schedule → Option Obstacle
obstacle_in clock s = option_or (scale_obstacle s) (parts_obstacle clock s)
