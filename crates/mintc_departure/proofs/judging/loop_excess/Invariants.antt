use Rattle.std.proofs.Common.{◌≡◌, take, ◌*◌}
use Rattle.mintc_graph_walks.specs.Bounds.{IsWithin}
use Rattle.mintc_timing.specs.Violations.{loop_amount}
use Rattle.mintc_departure.proofs.judging.loop_excess.Given as goal

-- the amount is that of the pairs so far
abbrev pub invariant-loop-pair : goal.invariant-loop-pair
invariant-loop-pair l = record {
  is : l.amount ≡ loop_amount l.clocked.system.now l.clocked.schedule.now (take l.pair-index l.pairs);
  within : IsWithin (l.pair-index * 400000000000000) l.amount;
}
