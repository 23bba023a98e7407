use Rattle.std.proofs.Common.{◌≡◌, ◌≤◌, ◌-◌, length}
use Rattle.mintc_paths.specs.Worklist.{IsReady}
use Rattle.mintc_paths.specs.Found.{IsFoundBefore}
use Rattle.mintc_paths.specs.Sums.{AreMarked}
use Rattle.mintc_paths.specs.Refusals.{AreShortBefore}
use Rattle.mintc_paths.proofs.blocks.find_each.Given as goal

abbrev pub invariant-loop-first : goal.invariant-loop-first
invariant-loop-first g l = record {
  marked : AreMarked l.sums l.reached;
  ready : IsReady (length l.plan.sequence.now.along.items) l.awake;
  found : IsFoundBefore g.of.design l.first 0 l.found;
  most : l.found.most ≡ l.plan.most;
  short : AreShortBefore g.of.design l.first;
  inside : l.first ≤ l.plan.elements;
  bits : length l.sums ≡ length l.fn.sums;
}

abbrev pub decreases-loop-first : goal.decreases-loop-first
decreases-loop-first g l = l.plan.elements - l.first

abbrev pub ghost-fill : goal.ghost-fill
ghost-fill g a = g.of

abbrev pub ghost-refuse_long : goal.ghost-refuse_long
ghost-refuse_long g a = g.of.design

abbrev pub ghost-add_all : goal.ghost-add_all
ghost-add_all g a = g.of.design
