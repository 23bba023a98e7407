use Rattle.std.proofs.Common.{◌≡◌, ◌≢◌, ◌<◌, ◌≤◌, ℕ, true, false, length}
use Rattle.mintc_timing.specs.Departures.{departure, early_departure}
use Rattle.mintc_timing.specs.Design.{element_count}
use Rattle.mintc_departure.proofs.rounds.raise.Given as goal

-- The departures so far are what the round makes them, the others are as they were, and `changed` says whether any
-- differs.
abbrev pub invariant-loop-number : goal.invariant-loop-number
invariant-loop-number l = record {
  kept : l.room ≡ record l.fn.room { early = l.room.early };
  count : length l.room.early ≡ element_count l.clocked.system.now.flat;
  done : (k : ℕ) → k < l.number → departure l.room.early k ≡ early_departure l.clocked.system.now l.clocked.schedule.now l.fn.room.early k;
  rest : (k : ℕ) → l.number ≤ k → departure l.room.early k ≡ departure l.fn.room.early k;
  still : l.changed ≡ false → (k : ℕ) → k < l.number → early_departure l.clocked.system.now l.clocked.schedule.now l.fn.room.early k ≡ departure l.fn.room.early k;
  differs : l.changed ≡ true → (k : ℕ) × (k < element_count l.clocked.system.now.flat) × (early_departure l.clocked.system.now l.clocked.schedule.now l.fn.room.early k ≢ departure l.fn.room.early k);
}
