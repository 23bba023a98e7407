use Rattle.std.proofs.Common.{length, ap, ◌∙◌, arith}
use Rattle.mintc_senses.specs.Senses.{sense_at}
use Rattle.mintc_edges.specs.Edges.{transitions_of}
use Rattle.mintc_edges.proofs.CountLaws.{sum_more}
use Rattle.mintc_edges.proofs.counting.arcs_from.Goals as goal

pub loop-number-preserved : goal.loop-number-preserved
loop-number-preserved c =
    let more = sum_more (λ o. length (transitions_of (sense_at c.args.senses.now c.args.cell c.args.input o))) c.loop-number.number in
    let here = c.transition_count-total.ensures.value ∙ ap (λ s. length (transitions_of s)) c.sense.ensures in
    (omega (arith, more, c.loop-number.invariant.0, here), omega (arith, c.loop-number.invariant.1, c.transition_count-total.ensures.small))
