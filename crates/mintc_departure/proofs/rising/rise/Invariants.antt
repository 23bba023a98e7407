use Rattle.std.proofs.Common.{◌≡◌}
use Rattle.mintc_timing.specs.Design.{element_count}
use Rattle.mintc_departure.specs.Rounds.{AreSwept}
use Rattle.mintc_departure.proofs.Missing.{missing}
use Rattle.mintc_departure.proofs.rising.rise.Given as goal

-- the early departures rise, and nothing else of the room changes
abbrev pub invariant-loop : goal.invariant-loop
invariant-loop l = record {
  kept : l.room ≡ record l.fn.room { early = l.room.early };
  swept : AreSwept l.clocked.system.now l.clocked.schedule.now l.fn.room.late l.room.early l.stale.words.items;
}

abbrev pub decreases-loop : goal.decreases-loop
decreases-loop l = missing l.clocked.system.now l.clocked.schedule.now l.fn.room.late l.room.early (element_count l.clocked.system.now.flat)
