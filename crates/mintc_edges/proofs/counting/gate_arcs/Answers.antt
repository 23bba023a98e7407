use Rattle.std.proofs.Common.{arith}
use Rattle.mintc_edges.specs.Counts.{row_count}
use Rattle.mintc_edges.proofs.CountLaws.{sum_more}
use Rattle.mintc_edges.proofs.counting.gate_arcs.Goals as goal

pub loop-input-preserved : goal.loop-input-preserved
loop-input-preserved c =
    let more = sum_more (λ i. row_count c.args.senses.now c.args.cell i c.args.outputs) c.loop-input.input in
    omega (arith, more, c.loop-input.invariant, c.arcs_from.ensures.value, c.min-total.ensures)
