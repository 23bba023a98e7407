use Rattle.std.proofs.Common.{sym, ◌∙◌}
use Rattle.mintcx_sense_keys.specs.Senses.{is_named_once}
use Rattle.mintcx_sense_keys.proofs.LoopLaws.{seen_fails, seen_passes}
use Rattle.mintcx_sense_keys.proofs.rows.are_named_once_at.Goals as goal

pub returns-then-not-is_named_once : goal.returns-then-not-is_named_once
returns-then-not-is_named_once c =
    seen_fails (λ a. is_named_once c.args.keys.now c.args.cell.now a c.args.output.now) (λ n. n.now) c.args.inputs.now c.loop-input.input-index c.input-item.result _ c.loop-input-test.true c.input-item.is c.loop-input.invariant
    (sym c.is_named_once.ensures ∙ c.if-not-is_named_once.true)

pub loop-input-preserved : goal.loop-input-preserved
loop-input-preserved c =
    seen_passes (λ a. is_named_once c.args.keys.now c.args.cell.now a c.args.output.now) (λ n. n.now) c.args.inputs.now c.loop-input.input-index c.input-item.result _ c.loop-input-test.true c.input-item.is c.loop-input.invariant
    (sym c.is_named_once.ensures ∙ c.if-not-is_named_once.false)
