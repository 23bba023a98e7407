use Rattle.std.proofs.Common.{take}
use Rattle.mintc_annotate_resolve.specs.Resolution.{of_each}
use Rattle.mintc_annotate_delays.specs.Gathered.{IsTakenIn}
use Rattle.mintc_annotate_delays.proofs.gathering.apply_at_leaves.Given as goal

-- the delay is taken in at the leaves so far
abbrev pub invariant-loop-leaf : goal.invariant-loop-leaf
invariant-loop-leaf l = IsTakenIn l.delay.entry (of_each l.lookup.hierarchy.now l.lookup.cells.now l.delay.subject (take l.leaf-index l.leaves)) l.delay.least l.delay.greatest l.fn.ranges l.ranges
