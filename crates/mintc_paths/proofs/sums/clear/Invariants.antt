use Rattle.std.proofs.Common.{◌≡◌, ℕ, List, length}
use Rattle.mintc_timing.specs.declared.parts.TimingArc.{TimingArc}
use Rattle.mintc_paths_sums.specs.Placed.{placed}
use Rattle.mintc_paths.specs.Worklist.{IsAwake}
use Rattle.mintc_paths.specs.Sums.{AreBegun, AreMarked}
use Rattle.mintc_paths.proofs.sums.clear.Given as goal

-- the lanes so far are begun
abbrev pub invariant-loop-lane : goal.invariant-loop-lane
invariant-loop-lane l = record {
  begun : (arcs : List TimingArc) (order : List ℕ) → AreBegun arcs order l.first l.lane (placed l.sequence.rows.of_bits.items l.sums);
  marked : AreMarked l.sums l.reached;
  awake : IsAwake l.sequence.along.items 0 l.reached l.awake;
  count : length l.sums ≡ length l.fn.sums;
}
