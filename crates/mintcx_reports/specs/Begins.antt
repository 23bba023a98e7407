-- Where a stage of a chain begins, in words.
use Rattle.std.specs.Prelude.{◌≡◌, ℕ, ℤ, pos, negsuc, ◌+ℤ◌, ◌-ℤ◌, ◌*ℤ◌, ◌≤ℤ◌, if◌then◌else◌, List, [], ◌++◌, length}
use Rattle.std.specs.Prelude.{codes, Option, Some, None}
use Rattle.std.specs.Ordering.{int_eq}
use Rattle.mintc_fraction.specs.Ratio.{over}
use Rattle.mintc_timing.specs.declared.clocking.Schedule.{Schedule}
use Rattle.mintc_timing.specs.Clocking.{start_of, width_of}
use Rattle.mintc_timing.specs.Design.{Design, element_at, phase_count, phase_of}
use Rattle.mintc_timing.specs.Limits.{IsInRange}
use Rattle.mintcx_amounts.specs.declared.unit.Unit.{Unit}
use Rattle.mintcx_amounts.specs.Amounts.{amount_text}
use Rattle.mintcx_chain.specs.declared.rows.Row.{Row}
use Rattle.mintcx_chain.specs.declared.stages.Stage.{Stage}
use Rattle.mintcx_chain.specs.Names.{element_of}
use Rattle.mintcx_frame.specs.Names.{element_name, kind_on_phase, node_name}

-- A schedule of the design's phases, in its range.
pub record IsTimed (design : Design) (s : Schedule) : Type 0 where
  pub in_range : IsInRange s
  pub phases : length s.starts ≡ phase_count design

-- a time of a report, a numerator over a schedule's denominator
abbrev pub IsReportTime : ℤ → Type 0
IsReportTime x = (negsuc 199999999999999999999999 ≤ℤ x) × (x ≤ℤ pos 200000000000000000000000)

-- a time over a schedule's denominator
abbrev pub moment_text : Unit → Schedule → ℤ → List ℕ
moment_text unit s time = amount_text unit (over time s.den)

-- when a phase starts in a cycle, which is counted from 1
abbrev pub starts_in : Schedule → ℕ → ℕ → ℤ
starts_in s p cycle = start_of s p +ℤ (pos cycle -ℤ pos 1) *ℤ s.cycle

-- when a flop on a phase samples in a cycle
abbrev pub sample_text : Schedule → Unit → ℕ → ℕ → List ℕ
sample_text s unit p cycle = codes ", samples at " ++ moment_text unit s (starts_in s p cycle)

-- when a latch on a phase is open in a cycle
abbrev pub open_text : Schedule → Unit → ℕ → ℕ → List ℕ
open_text s unit p cycle = codes ", open from " ++ moment_text unit s (starts_in s p cycle)
    ++ codes " to " ++ moment_text unit s (starts_in s p cycle +ℤ width_of s p)

-- what it borrows, where it does
abbrev pub lent_text : Schedule → Unit → ℤ → List ℕ
lent_text s unit time = if int_eq time (pos 0) then [] else codes ", borrows " ++ moment_text unit s time

-- when an element of a row samples, or is open, and what it borrows
abbrev pub window_text : Design → Schedule → Unit → Row → ℕ → List ℕ
window_text design s unit row l = if (element_at design l).flop
    then sample_text s unit (phase_of design l) row.cycle
    else (open_text s unit (phase_of design l) row.cycle ++ lent_text s unit row.borrows)

-- an element where a stage begins: its name, its kind, and the rest
abbrev pub element_text : Design → Schedule → Unit → Row → ℕ → List ℕ
element_text design s unit row l = element_name design l ++ codes "  " ++ kind_on_phase design l
    ++ window_text design s unit row l

-- what a stage begins at: an element, or else a moment of the clock
abbrev pub begun_text : Design → Schedule → Unit → Row → Option ℕ → ℕ → List ℕ
begun_text design s unit row (Some l) node = element_text design s unit row l
begun_text design s unit row None node = node_name design node

abbrev pub begin_text : Design → Schedule → Unit → Row → Stage → List ℕ
begin_text design s unit row stage = begun_text design s unit row (element_of stage.why) stage.from
