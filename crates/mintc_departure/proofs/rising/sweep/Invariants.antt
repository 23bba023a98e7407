use Rattle.std.proofs.Common.{◌≡◌, ◌-◌, ◌<◌, ◌≤ℤ◌, ◌<ℤ◌, ℕ, true, false}
use Rattle.mintc_bitset.specs.BitSet.{IsIn}
use Rattle.mintc_timing.specs.Departures.{departure}
use Rattle.mintc_timing.specs.Design.{element_count}
use Rattle.mintc_departure.specs.Rounds.{AreSwept}
use Rattle.mintc_departure.proofs.rising.sweep.Given as goal

-- Departures rise, `changed` says whether any has, and none before the place is stale unless one has.
abbrev pub invariant-loop-at : goal.invariant-loop-at
invariant-loop-at l = record {
  kept : l.room ≡ record l.fn.room { early = l.room.early };
  swept : AreSwept l.clocked.system.now l.clocked.schedule.now l.fn.room.late l.room.early l.stale.words.items;
  up : (k : ℕ) → k < element_count l.clocked.system.now.flat → departure l.fn.room.early k ≤ℤ departure l.room.early k;
  differs : l.changed ≡ true → (k : ℕ) × (k < element_count l.clocked.system.now.flat) × (departure l.fn.room.early k <ℤ departure l.room.early k);
  none : l.changed ≡ false → (k : ℕ) → k < l.at → IsIn l.stale.words.items k → ⊥;
}

abbrev pub decreases-loop-at : goal.decreases-loop-at
decreases-loop-at l = element_count l.clocked.system.now.flat - l.at
