-- the network whose greatest walks are the late departures
use Rattle.std.specs.Prelude.{ℕ, ℤ, pos, negsuc, ◌+ℤ◌, ◌*ℤ◌, if◌then◌else◌, List, map}
use Rattle.mintc_graph_walks.specs.declared.network.Arc.{Arc}
use Rattle.mintc_timing.specs.declared.parts.Pair.{Pair}
use Rattle.mintc_timing.specs.declared.clocking.Schedule.{Schedule}
use Rattle.mintc_timing.specs.Design.{Design, Timing, element_at, phase_of}
use Rattle.mintc_timing.specs.Clocking.{shift_of}
use Rattle.mintc_timing.specs.Departures.{late_opening}

-- When an element's data leaves at the latest where no data reaches it, counted from the start of its phase.
abbrev pub late_start_of : Design → Schedule → ℕ → ℤ
late_start_of design s l = if (element_at design l).flop then pos 0 else late_opening design s l

-- By how much later data arrives at the end of a pair than it departs at its beginning, each counted from the start
-- of the element's phase.
abbrev pub late_travel : Design → Schedule → Pair → ℤ
late_travel design s p = ((element_at design p.from).dq_max +ℤ p.max) *ℤ s.den +ℤ shift_of s (phase_of design p.from)
    (phase_of design p.to)

-- The arc of a pair. Into a flop it is closed and takes 1 away, so it changes nothing there.
abbrev pub arc_of : Design → Schedule → Pair → Arc
arc_of design s p = record {
  from = if (element_at design p.to).flop then p.to else p.from;
  to = p.to;
  weight = if (element_at design p.to).flop then negsuc 0 else late_travel design s p;
}

-- the arcs of all pairs, each under its pair's number
abbrev pub arcs_of : Timing → Schedule → List Arc
arcs_of t s = map (arc_of t.flat s) t.pairs
