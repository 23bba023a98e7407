use Rattle.std.proofs.Common.{get_or}
use Rattle.std.proofs.lemmas.List.{get_or_default}
use Rattle.mintcx_picture.specs.declared.paths.Step.TheVariants.{Move}
use Rattle.mintcx_picture.specs.Paths.{step_text}
use Rattle.mintcx_picture.proofs.WrittenLaws.{items_more}
use Rattle.mintcx_picture.proofs.paths.put_steps.Goals as goal

pub loop-step-preserved : goal.loop-step-preserved
loop-step-preserved c =
    let steps = c.args.steps.now in
    let i = c.loop-step.step-index in
    let step = get_or steps i (Move 0 0) in
    let below = c.loop-step-test.true in
    items_more step_text steps i step c.args.lines.now c.loop-step.lines c.put_step.new.lines below (get_or_default steps i (Move 0 0) step below)
    c.loop-step.invariant c.in_ok-put_step.ensures
