use Rattle.std.proofs.Common.{take, filter}
use Rattle.std.specs.List.{AllZip}
use Rattle.mintc_annotate.specs.Phases.{IsPhaseOf}
use Rattle.mintc_annotate_resolve.specs.Pins.{is_storage, leaf_cell, all_leaves}
use Rattle.mintc_annotate.proofs.tracing.trace.Given as goal

-- the latches and flops so far have these phases
abbrev pub invariant-loop-number : goal.invariant-loop-number
invariant-loop-number l = AllZip (IsPhaseOf l.hierarchy l.cells l.spots) (filter (λ k. is_storage (leaf_cell l.hierarchy l.cells k)) (take l.number (all_leaves l.hierarchy))) l.phases.items
