-- the early departures where no data reaches an element, and what a pair adds to one
use Rattle.std.specs.Prelude.{ℕ, ℤ, pos, ◌+ℤ◌, ◌*ℤ◌, if◌then◌else◌}
use Rattle.mintc_timing.specs.declared.parts.Pair.{Pair}
use Rattle.mintc_timing.specs.declared.clocking.Schedule.{Schedule}
use Rattle.mintc_timing.specs.Design.{Design, element_at, phase_of}
use Rattle.mintc_timing.specs.Clocking.{shift_of}
use Rattle.mintc_timing.specs.Departures.{early_opening}

-- When an element's data leaves at the earliest where no data reaches it, counted from the start of its phase.
abbrev pub early_start_of : Design → Schedule → ℕ → ℤ
early_start_of design s l = if (element_at design l).flop then pos 0 else early_opening design s l

-- By how much later data arrives at the end of a pair than it departs at its beginning, at the earliest, each counted
-- from the start of the element's phase.
abbrev pub early_travel : Design → Schedule → Pair → ℤ
early_travel design s p = ((element_at design p.from).dq_min +ℤ p.min) *ℤ s.den +ℤ shift_of s (phase_of design p.from)
    (phase_of design p.to)
