use Rattle.std.proofs.Common.{◌≡◌, ◌≤◌, ◌==◌, length, map, drop}
use Rattle.std.specs.List.{filter}
use Rattle.mintc_adjacency.specs.Adjacency.{AreLeft}
use Rattle.mintc_timing.specs.declared.parts.Pair.{Pair}
use Rattle.mintc_timing.specs.Departures.{early_arrival}
use Rattle.mintc_timing.specs.Design.{pair_at}
use Rattle.mintc_timing.specs.Extremes.{least_of}
use Rattle.mintc_departure.specs.Rounds.{IsFirst}
use Rattle.mintc_departure.proofs.rising.earliest.Given as goal

-- the number stands for the earliest arrival by the pairs from the one that comes next on, that one not yet
abbrev pub invariant-loop-number : goal.invariant-loop-number
invariant-loop-number l = record {
  can : (goal.iterator-loop-number).can_next l.number-iterator;
  ends : (goal.iterator-loop-number).is_finite l.number-iterator;
  left : AreLeft (λ n. (pair_at l.clocked.system.now n).to) l.element l.number-iterator.next l.number-iterator;
  within : l.number-iterator.next ≤ length l.clocked.system.now.pairs;
  first : IsFirst (least_of (map (early_arrival l.clocked.system.now.flat l.clocked.schedule.now l.departures) (filter (λ (p : Pair). p.to == l.element) (drop l.number-iterator.next l.clocked.system.now.pairs)))) l.first;
}
