-- the checks of the clock and the bounds, one by one
use Rattle.std.specs.Prelude.{◌+◌, ◌+ℤ◌, ◌-ℤ◌, ◌*ℤ◌, ℕ, pos, List, map, filter}
use Rattle.mintc_timing.specs.declared.parts.Bound.{Bound}
use Rattle.mintc_timing.specs.declared.clocking.Schedule.{Schedule}
use Rattle.mintc_timing.specs.declared.violation.Broken.TheVariants as broken
use Rattle.mintc_timing.specs.declared.violation.Violation.{Violation}
use Rattle.mintc_timing.specs.Clocking.{start_of, end_of, width_of, time_of, crosses_of, feeds_of, least_width}
use Rattle.mintc_timing.specs.Design.{Design, Timing}
use Rattle.mintc_timing.specs.Violations.{check, phases_of}
use Rattle.mintc_departure.specs.declared.clock_checks.PhaseRule.{PhaseRule}
use Rattle.mintc_departure.specs.declared.clock_checks.PhaseRule.TheVariants.{Cycle, Order, Span, Width}

-- a rule at a phase, with the amount by which a schedule fails it
abbrev pub phase_check : Design → Schedule → PhaseRule → ℕ → Violation
phase_check design s Cycle p = check (broken.Cycle p) (start_of s p -ℤ s.cycle)
phase_check design s Order p = check (broken.Order p) (start_of s p -ℤ start_of s (p + 1))
phase_check design s Span p = check (broken.Span p) (width_of s p -ℤ s.cycle)
phase_check design s Width p = check (broken.Width p) (least_width design p *ℤ s.den -ℤ width_of s p)

-- a phase that has to end before another starts, and all of those that the other one feeds
abbrev pub apart_check : Schedule → ℕ → ℕ → Violation
apart_check s i j = check (broken.Apart i j) (end_of s j -ℤ pos (crosses_of j i) *ℤ s.cycle -ℤ start_of s i)

-- what phase i asks of the phases that it feeds
abbrev pub fed_checks : Timing → Schedule → ℕ → List Violation
fed_checks t s i = map (apart_check s i) (filter (feeds_of t i) (phases_of t.flat))

-- a bound under its number
abbrev pub bound_check : Schedule → ℕ × Bound → Violation
bound_check s b = check (broken.Bound b.0)
    (time_of s b.1.from +ℤ b.1.gap *ℤ s.den -ℤ pos b.1.cycles *ℤ s.cycle -ℤ time_of s b.1.to)
