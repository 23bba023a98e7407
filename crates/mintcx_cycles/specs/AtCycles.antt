-- What there is at a cycle time: its earliest right schedule, or a chain that forbids it.
use Rattle.std.specs.Prelude.{◌≡◌, ℕ, ℤ, pos, ◌*ℤ◌, List, All}
use Rattle.mintc_timing.specs.declared.clocking.Schedule.{Schedule}
use Rattle.mintc_timing.specs.Design.{Timing}
use Rattle.mintc_timing.specs.Limits.{IsInRange}
use Rattle.mintc_timing.specs.Links.{Forbids, links_of}
use Rattle.mintc_timing.specs.Right.{IsRight}
use Rattle.mintc_certificate.specs.declared.members.Member.{Member}
use Rattle.mintc_certificate.specs.Ranges.{IsChainInRange, IsDeparture}
use Rattle.mintc_certificate.specs.Valid.{IsRing, links_of_members}
use Rattle.mintc_optimise.specs.Optimum.{IsEarliest, IsSimple}
use Rattle.mintcx_cycles.specs.declared.cycles.AtCycle.{AtCycle}
use Rattle.mintcx_cycles.specs.declared.cycles.AtCycle.TheVariants.{Right, Short}

-- The schedule has this cycle time, in whole femtoseconds, and is right with these departures. No schedule of that
-- cycle time starts or ends a phase, or lets a latch depart, sooner.
pub record IsRightAt (t : Timing) (cycle : ℕ) (s : Schedule) (d : List ℤ) : Type 0 where
  pub cycle_is : s.cycle ≡ pos cycle
  pub den_is : s.den ≡ pos 1
  pub right : IsRight t s d
  pub earliest : IsEarliest t.flat (links_of t) s d

-- The members are a ring of the design's constraints, entering no node twice, that takes longer than its cycles of
-- this length; so no schedule of that cycle time is right.
pub record IsShortAt (t : Timing) (cycle : ℕ) (members : List Member) : Type 0 where
  pub ring : IsRing t members
  pub simple : IsSimple t members
  pub forbids : Forbids (links_of_members t.flat members) (pos cycle) (pos 1)
  pub none : (s : Schedule) (d : List ℤ) → IsRight t s d → s.cycle ≡ pos cycle *ℤ s.den → ⊥

-- What there is at a cycle time in femtoseconds.
abbrev pub IsAtCycle : Timing → ℕ → AtCycle → Type 0
IsAtCycle t cycle (Right schedule departures) = IsRightAt t cycle schedule departures
IsAtCycle t cycle (Short chain) = IsShortAt t cycle chain

-- The numbers are those that schedules, departures and chains may have in texts.
abbrev pub IsSayable : AtCycle → Type 0
IsSayable (Right schedule departures) = IsInRange schedule × All IsDeparture departures
IsSayable (Short chain) = IsChainInRange chain
