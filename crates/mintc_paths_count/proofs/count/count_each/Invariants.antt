use Rattle.std.proofs.Common.{◌≡◌, ◌≤◌, ◌+◌, ◌-◌, length}
use Rattle.mintc_paths.specs.Worklist.{IsReady}
use Rattle.mintc_paths_count.specs.Count.{IsCountBefore}
use Rattle.mintc_paths_count.specs.Marks.{AreMarksReached}
use Rattle.mintc_paths_count.proofs.count.count_each.Given as goal

abbrev pub invariant-loop-first : goal.invariant-loop-first
invariant-loop-first g l = record {
  count : IsCountBefore g.of.design l.first 0 l.count;
  marked : AreMarksReached l.marks l.reached;
  ready : IsReady (length l.sequence.along.items) l.awake;
  inside : l.first ≤ l.elements;
  bits : length l.marks ≡ length l.fn.marks;
  inputs : length l.ends ≡ length l.fn.ends;
}

abbrev pub decreases-loop-first : goal.decreases-loop-first
decreases-loop-first g l = l.elements - l.first

abbrev pub invariant-loop-lane : goal.invariant-loop-lane
invariant-loop-lane g l = IsCountBefore g.of.design (l.first + l.lane) 0 l.count

abbrev pub ghost-mark_all : goal.ghost-mark_all
ghost-mark_all g a = g.of

abbrev pub ghost-count_from : goal.ghost-count_from
ghost-count_from g a = g.of.design
