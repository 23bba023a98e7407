use Rattle.std.proofs.Common.{◌≡◌, ◌<◌, ℕ, pos, length, get_or}
use Rattle.mintc_timing.specs.Design.{element_count}
use Rattle.mintc_departure.specs.Networks.{late_start_of}
use Rattle.mintc_departure.proofs.settling.fill_starts.Given as goal

-- the values so far are starts, and nothing else has changed
abbrev pub invariant-loop-number : goal.invariant-loop-number
invariant-loop-number l = record {
  kept : l.room ≡ record l.fn.room { values = l.room.values };
  count : length l.room.values ≡ element_count l.clocked.system.now.flat;
  filled : (k : ℕ) → k < l.number → get_or l.room.values k (pos 0) ≡ late_start_of l.clocked.system.now.flat l.clocked.schedule.now k;
}
