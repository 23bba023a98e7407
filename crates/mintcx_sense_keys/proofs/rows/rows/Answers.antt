use Rattle.std.proofs.Common.{map, ap, ◌∙◌}
use Rattle.mintc_cells.specs.Rules.{inputs_of}
use Rattle.mintcx_sense_keys.specs.Senses.{pair_sense}
use Rattle.mintcx_sense_keys.proofs.LoopLaws.{row_more}
use Rattle.mintcx_sense_keys.proofs.rows.rows.Goals as goal

pub loop-output-preserved : goal.loop-output-preserved
loop-output-preserved c =
    row_more (λ y. map (λ a. pair_sense c.args.keys.now c.args.cell.now a y) (inputs_of c.args.cell.now)) c.outputs-outputs.result.now c.loop-output.output-index c.output-item.result
    c.loop-output.rows.items c.push_row.new.rows.items c.in_ok-next.next c.loop-output-test.true c.output-item.is c.loop-output.invariant
    (c.in_ok-next.ensures ∙ ap (map (λ a. pair_sense c.args.keys.now c.args.cell.now a c.output-item.result)) c.requires) c.in_ok-push_row.ensures
