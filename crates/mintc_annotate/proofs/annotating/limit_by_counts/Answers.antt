use Rattle.std.proofs.Common.{◌∙◌, ◌+◌, length, ap, arith}
use Rattle.mintc_annotate.specs.Counts.{leaf_arc_count}
use Rattle.mintc_annotate.proofs.SharedCountLaws.{limits_alike}
use Rattle.mintc_annotate.proofs.annotating.limit_by_counts.Goals as goal

pub returns-clause-refusal : goal.returns-clause-refusal
returns-clause-refusal c = λ i o is_i is_o.
    let counts = c.args.counts in
    let joins = ap length c.items.ensures in
    let leaves = c.leaf_arc_count.ensures in
    (rw (c.items-2.ensures, c.items-3.ensures, c.items-4.ensures) at c.first_over.ensures.refusal)
    ∙ limits_alike c.args.limits.now c.first_over.ensures.kept (length c.args.hierarchy.now.inner) (length c.args.clock.now.phases) (length c.args.clock.now.bounds)
    (counts.stored + i + o) (counts.stored + counts.inputs + counts.outputs)
    (length c.args.hierarchy.now.joins + leaf_arc_count c.args.hierarchy.now c.args.cells.now + i + o)
    (length c.items.result.now + c.leaf_arc_count.result + counts.inputs + counts.outputs)
    (omega (arith, is_i, is_o)) (omega (arith, is_i, is_o, joins, leaves))
