use Rattle.std.proofs.Common.{◌≡◌, ◌<◌, ◌==◌, ℕ, pos, length, get_or, take, map}
use Rattle.std.specs.List.{filter}
use Rattle.mintc_timing.specs.declared.parts.Pair.{Pair}
use Rattle.mintc_timing.specs.Design.{element_count}
use Rattle.mintc_timing.specs.Departures.{late_arrival}
use Rattle.mintc_timing.specs.Extremes.{greatest_of}
use Rattle.mintc_departure.specs.Excesses.{IsLast}
use Rattle.mintc_departure.proofs.latest.gather_latest.Given as goal

-- each value stands for the latest arrival by the pairs so far
abbrev pub invariant-loop-number : goal.invariant-loop-number
invariant-loop-number l = record {
  kept : l.room ≡ record l.fn.room { values = l.room.values };
  count : length l.room.values ≡ element_count l.clocked.system.now.flat;
  gathered : (k : ℕ) → k < element_count l.clocked.system.now.flat →
      IsLast (greatest_of (map (late_arrival l.clocked.system.now.flat l.clocked.schedule.now l.fn.room.late) (filter (λ (p : Pair). p.to == k) (take l.number l.clocked.system.now.pairs)))) (get_or l.room.values k (pos 0));
}
