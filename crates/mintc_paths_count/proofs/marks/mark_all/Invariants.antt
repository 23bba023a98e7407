use Rattle.std.proofs.Common.{◌≡◌, ◌-◌, min, length}
use Rattle.mintc_paths.specs.Worklist.{IsAwake}
use Rattle.mintc_paths_count.specs.Marks.{AreMarksAlong, AreMarksReached}
use Rattle.mintc_paths_count.proofs.marks.mark_all.Given as goal

-- the marks along the arcs so far, and what is awake from here on
abbrev pub invariant-loop-place : goal.invariant-loop-place
invariant-loop-place g l = record {
  along : AreMarksAlong (length l.fn.marks) g.of.design.arcs g.of.order (min l.place (length g.of.order)) l.sequence.rows.of_bits.items l.first l.lanes l.marks;
  marked : AreMarksReached l.marks l.reached;
  awake : IsAwake l.sequence.along.items l.place l.reached l.awake;
  count : length l.marks ≡ length l.fn.marks;
}

abbrev pub decreases-loop-place : goal.decreases-loop-place
decreases-loop-place g l = length l.sequence.along.items - l.place
