use Rattle.std.proofs.Common.{◌∙◌, length, sym, ap, arith}
use Rattle.mintc_annotate_delays.specs.Ranges.{look}
use Rattle.mintc_annotate.proofs.AnnotateLaws.{as_stored, few_stored, limit_counts}
use Rattle.mintc_annotate.proofs.annotating.limit.Goals as goal

pub limit_by_counts-requires-clause-stored : goal.limit_by_counts-requires-clause-stored
limit_by_counts-requires-clause-stored c =
    let few = few_stored c.args.hierarchy.now c.args.cells.now c.args.clock.now c.args.gathered.now c.requires.gathered c.requires.shape.few_leaves in
    omega (arith, few, ap length c.items-stored.ensures)

pub returns-clause-refusal : goal.returns-clause-refusal
returns-clause-refusal c =
    let stored = as_stored c.args.hierarchy.now c.args.cells.now c.args.clock.now c.args.gathered.now c.requires.gathered in
    (rw c.items-stored.ensures at (c.limit_by_counts.ensures.refusal _ _ c.requires.gathered.inputs c.requires.gathered.outputs))
    ∙ sym (limit_counts c.args.limits.now c.args.hierarchy.now c.args.cells.now c.args.clock.now (look c.args.gathered.now.ranges) c.args.gathered.now.phases stored)
