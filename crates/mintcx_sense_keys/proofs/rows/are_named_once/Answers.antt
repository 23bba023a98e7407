use Rattle.std.proofs.Common.{sym, ap, ◌∙◌}
use Rattle.std.specs.List.{list_all}
use Rattle.mintc_cells.specs.Rules.{inputs_of}
use Rattle.mintcx_sense_keys.specs.Senses.{is_named_once}
use Rattle.mintcx_sense_keys.proofs.LoopLaws.{one_fails, one_passes}
use Rattle.mintcx_sense_keys.proofs.rows.are_named_once.Goals as goal

pub returns-then-not-are_named_once_at : goal.returns-then-not-are_named_once_at
returns-then-not-are_named_once_at c =
    one_fails (λ y. list_all (λ a. is_named_once c.args.keys.now c.args.cell.now a y) (inputs_of c.args.cell.now)) c.outputs-outputs.result.now c.loop-output.output-index c.output-item.result _
    c.loop-output-test.true c.output-item.is c.loop-output.invariant
    (ap (list_all (λ a. is_named_once c.args.keys.now c.args.cell.now a c.output-item.result)) (sym c.requires) ∙ sym c.are_named_once_at.ensures ∙ c.if-not-are_named_once_at.true)

pub loop-output-preserved : goal.loop-output-preserved
loop-output-preserved c =
    one_passes (λ y. list_all (λ a. is_named_once c.args.keys.now c.args.cell.now a y) (inputs_of c.args.cell.now)) c.outputs-outputs.result.now c.loop-output.output-index c.output-item.result _
    c.loop-output-test.true c.output-item.is c.loop-output.invariant
    (ap (list_all (λ a. is_named_once c.args.keys.now c.args.cell.now a c.output-item.result)) (sym c.requires) ∙ sym c.are_named_once_at.ensures ∙ c.if-not-are_named_once_at.false)
