use Rattle.std.proofs.Common.{◌≤◌, length}
use Rattle.mintc_order.proofs.GatheringLaws.{AreGathered}
use Rattle.mintc_order.proofs.gathering.order_from_postorder.Given as goal

abbrev pub invariant-loop-rest : goal.invariant-loop-rest
invariant-loop-rest l = record {
  rest : l.rest ≤ length l.given;
  gathered : AreGathered l.arcs l.given l.rest l.gathered.items;
}

abbrev pub decreases-loop-rest : goal.decreases-loop-rest
decreases-loop-rest l = l.rest
