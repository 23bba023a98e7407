use Rattle.std.proofs.Common.{◌∙◌, ◌*◌, length, ap, arith}
use Rattle.mintc_edges.specs.Counts.{leaf_arc_count}
use Rattle.mintc_edges.specs.Numbers.{sense_of}
use Rattle.mintc_edges.proofs.GatheredLaws.{counts-alike}
use Rattle.mintc_edges.proofs.designing.limit_by_counts.Goals as goal

pub returns-clause-refusal : goal.returns-clause-refusal
returns-clause-refusal c = λ i o is_i is_o.
    let h = c.args.sources.now.hierarchy.now in
    let cells = c.args.sources.now.cells.now in
    let clock = c.args.sources.now.clock.now in
    let counts = c.args.counts in
    (rw (c.twice.ensures, c.items-2.ensures, c.items-3.ensures, c.items-4.ensures) at c.first_over.ensures.refusal)
    ∙ counts-alike c.args.limits.now c.first_over.ensures.kept (2 * length h.inner) (length clock.phases) i o counts.stored (length h.joins) (leaf_arc_count h cells (sense_of c.args.sources.now.senses.now cells)) (length clock.bounds) counts.inputs counts.outputs
    c.min-joins.result c.leaf_arc_count-arcs.result _ _ is_i is_o (omega (arith, c.min-joins.ensures, ap length c.items.ensures)) c.leaf_arc_count-arcs.ensures c.twice-2.ensures (omega (arith, c.twice-3.ensures))
