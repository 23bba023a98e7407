use Rattle.std.proofs.Common.{ℤ, List}
use Rattle.std.specs.Prelude.{IfSome}
use Rattle.mintc_checker.specs.Judged.{IsArrivalTime}
use Rattle.mintc_checker.specs.Labels.{AreLabels}
use Rattle.mintc_checker.specs.Trails.{IsLastUpTo}
use Rattle.mintc_checker.proofs.arrivals.last_arrival.Given as goal

-- the last arrival from the phases so far
abbrev pub invariant-loop-lane : goal.invariant-loop-lane
invariant-loop-lane l = record {
  last_so_far : (d : List ℤ) → AreLabels l.clocked.flat.now l.clocked.schedule.now.den d l.labels → IsLastUpTo l.clocked.flat.now l.clocked.schedule.now d l.lane l.number l.phase l.last;
  range : IfSome l.last IsArrivalTime;
}
