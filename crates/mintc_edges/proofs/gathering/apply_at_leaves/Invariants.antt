use Rattle.std.proofs.Common.{take}
use Rattle.mintc_annotate_resolve.specs.Resolution.{of_each}
use Rattle.mintc_edges.specs.Claims.{IsTakenIn}
use Rattle.mintc_edges.proofs.gathering.apply_at_leaves.Given as goal

-- the delay is taken in at the leaves so far
abbrev pub invariant-loop-leaf : goal.invariant-loop-leaf
invariant-loop-leaf l = IsTakenIn l.lookup.hierarchy.now l.lookup.cells.now l.delay (of_each l.lookup.hierarchy.now l.lookup.cells.now l.delay.delay.subject (take l.leaf-index l.leaves)) l.fn.told l.told
