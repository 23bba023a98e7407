use Rattle.std.proofs.Common.{◌≡◌, length}
use Rattle.mintc_paths.specs.Worklist.{IsAwake}
use Rattle.mintc_paths_count.specs.Marks.{AreMarksBegun, AreMarksReached}
use Rattle.mintc_paths_count.proofs.marks.begin.Given as goal

-- the lanes so far are begun
abbrev pub invariant-loop-lane : goal.invariant-loop-lane
invariant-loop-lane l = record {
  begun : AreMarksBegun (length l.fn.marks) l.sequence.rows.of_bits.items l.first l.lane l.marks;
  marked : AreMarksReached l.marks l.reached;
  awake : IsAwake l.sequence.along.items 0 l.reached l.awake;
  count : length l.marks ≡ length l.fn.marks;
}
