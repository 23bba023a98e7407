-- The memory in which a design is solved.
use Rattle.std.specs.Prelude.{◌≤◌, length}
use Rattle.mintc_timing.specs.Design.{Timing}
use Rattle.mintc_timing.specs.Right.{IsRight, IsLeastCycle, IsHopeless}
use Rattle.mintc_constraints.specs.Duality.{schedule_of, departures_of}
use Rattle.mintc_constraints.specs.Ordinary.{Constraints, IsOrdinary}
use Rattle.mintc_constraints.specs.Rooms.{Space}
use Rattle.mintc_ratio.specs.declared.searching.Outcome.{Outcome}
use Rattle.mintc_ratio.specs.declared.searching.Outcome.TheVariants.{Least, Never}

-- What a bench is seen as: its list of links, and its room.
pub record Workplace : Type 0 where
  pub list : Constraints
  pub room : Space

-- a bench of these links and this room
abbrev pub workplace_of : Constraints → Space → Workplace
workplace_of constraints space = record { list = constraints; room = space }

-- The links are ordinary, and the room is large enough for a search over them.
pub record IsRoomy (bench : Workplace) : Type 0 where
  pub ordinary : IsOrdinary bench.list
  pub nodes : bench.list.nodes ≤ bench.room.nodes
  pub links : length bench.list.links ≤ bench.room.links

-- What is solved of a design: its least cycle, with a right schedule of that cycle and its departures, which the room's
-- values are the moments of; or that no schedule is right.
abbrev pub IsSolved : Timing → Space → Outcome → Type 0
IsSolved t room (Least cycle) =
    IsLeastCycle t cycle.num cycle.den
    × IsRight t (schedule_of t.flat cycle.num cycle.den room.values) (departures_of t.flat room.values)
IsSolved t room Never = IsHopeless t
