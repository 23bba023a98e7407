use Rattle.std.proofs.Common.{◌∙◌, length, sym, ap, arith}
use Rattle.mintc_edges.proofs.GatheredLaws.{as-stored, few-stored, limit-counts}
use Rattle.mintc_edges.proofs.designing.limit.Goals as goal

pub limit_by_counts-requires-clause-stored : goal.limit_by_counts-requires-clause-stored
limit_by_counts-requires-clause-stored c =
    let few = few-stored c.args.sources.now.hierarchy.now c.args.sources.now.cells.now c.args.sources.now.clock.now c.args.gathered.now c.requires.gathered c.requires.shape.few_leaves in
    omega (arith, few, ap length c.items-stored.ensures)

pub returns-clause-refusal : goal.returns-clause-refusal
returns-clause-refusal c =
    let h = c.args.sources.now.hierarchy.now in
    let cells = c.args.sources.now.cells.now in
    let clock = c.args.sources.now.clock.now in
    let g = c.args.gathered.now in
    (rw c.items-stored.ensures at (c.limit_by_counts.ensures.refusal _ _ c.requires.gathered.inputs c.requires.gathered.outputs))
    ∙ sym (limit-counts g.told c.args.sources.now.senses.now h cells clock g.phases (as-stored h cells clock g c.requires.gathered) c.args.limits.now)
