use Rattle.std.proofs.Common.{◌<◌, ◌≤◌, length}
use Rattle.mintc_paths.proofs.Tracing.{KeepsTraced}
use Rattle.mintc_paths.proofs.trace.trace.Given as goal

abbrev pub invariant-loop-left : goal.invariant-loop-left
invariant-loop-left l = record {
  inside : l.left ≤ length l.order;
  bit : l.bit < length l.sums;
  traced : KeepsTraced l.extreme l.flat.arcs l.order l.sums l.end l.left l.bit l.path.items;
}

abbrev pub decreases-loop-left : goal.decreases-loop-left
decreases-loop-left l = l.left
