use Rattle.std.proofs.Common.{◌≡◌}
use Rattle.mintc_timing.specs.Design.{element_count}
use Rattle.mintc_departure.specs.Rounds.{AreRising}
use Rattle.mintc_departure.proofs.Missing.{missing}
use Rattle.mintc_departure.proofs.rounds.rise_in_rounds.Given as goal

-- the early departures rise, and the rest of the room but the values stays
abbrev pub invariant-loop : goal.invariant-loop
invariant-loop l = record {
  kept : l.room ≡ record l.fn.room { early = l.room.early; values = l.room.values };
  rising : AreRising l.clocked.system.now l.clocked.schedule.now l.fn.room.late l.room.early;
}

abbrev pub decreases-loop : goal.decreases-loop
decreases-loop l = missing l.clocked.system.now l.clocked.schedule.now l.fn.room.late l.room.early (element_count l.clocked.system.now.flat)
