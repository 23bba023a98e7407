use Rattle.std.proofs.Common.{◌≡◌, ◌<◌, ℕ, pos, length, get_or}
use Rattle.mintc_timing.specs.Design.{element_count}
use Rattle.mintc_departure.specs.Travels.{early_start_of}
use Rattle.mintc_departure.proofs.rounds.fill_early_starts.Given as goal

-- the departures so far are starts, and nothing else has changed
abbrev pub invariant-loop-number : goal.invariant-loop-number
invariant-loop-number l = record {
  kept : l.room ≡ record l.fn.room { early = l.room.early };
  count : length l.room.early ≡ element_count l.clocked.system.now.flat;
  filled : (k : ℕ) → k < l.number → get_or l.room.early k (pos 0) ≡ early_start_of l.clocked.system.now.flat l.clocked.schedule.now k;
}
