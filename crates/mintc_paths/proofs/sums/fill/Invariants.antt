use Rattle.std.proofs.Common.{◌≡◌, ◌-◌, min, length}
use Rattle.mintc_paths_sums.specs.Placed.{placed}
use Rattle.mintc_paths.specs.Worklist.{IsAwake}
use Rattle.mintc_paths.specs.Sums.{AreMarked, AreSums}
use Rattle.mintc_paths.proofs.sums.fill.Given as goal

-- the sums along the arcs so far, and what is awake from here on
abbrev pub invariant-loop-place : goal.invariant-loop-place
invariant-loop-place g l = record {
  sums_so_far : AreSums g.of.design.arcs g.of.order (min l.place (length g.of.order)) l.first l.lanes (placed l.sequence.rows.of_bits.items l.sums);
  marked : AreMarked l.sums l.reached;
  awake : IsAwake l.sequence.along.items l.place l.reached l.awake;
  count : length l.sums ≡ length l.fn.sums;
}

abbrev pub decreases-loop-place : goal.decreases-loop-place
decreases-loop-place g l = length l.sequence.along.items - l.place
