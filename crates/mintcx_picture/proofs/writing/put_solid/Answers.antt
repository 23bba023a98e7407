use Rattle.std.proofs.Common.{◌++◌, List, ℕ, ap, ◌∙◌}
use Rattle.std.specs.Prelude.{codes}
use Rattle.std.proofs.lemmas.Result.{on_ok_weaker}
use Rattle.mintcx_picture.specs.Attributes.{worded}
use Rattle.mintcx_picture.specs.Colours.{colour_code}
use Rattle.mintcx_picture.specs.Paths.{steps_text}
use Rattle.mintcx_picture.specs.declared.paths.Step.{Step}
use Rattle.mintcx_picture.proofs.WrittenLaws.{in_four}
use Rattle.mintcx_picture.proofs.writing.put_solid.Goals as goal

pub returns : goal.returns
returns c =
    on_ok_weaker c.put-2.result
    (λ e. in_four c.args.lines.now c.put.new.self c.put_steps.new.lines c.put_worded.new.lines c.put-2.new.self
    (codes "<path d=\"") (steps_text c.args.solid.now.steps) (worded (codes "\" fill=\"") (colour_code c.args.solid.now.fill)) (codes "/>\n")
    c.in_ok-put.ensures.ok (c.in_ok-put_steps.ensures ∙ ap (λ (v : List Step). c.put.new.self ++ steps_text v) c.items.ensures) (c.in_ok-put_worded.ensures ∙ ap (λ (v : List ℕ). c.put_steps.new.lines ++ worded (codes "\" fill=\"") v) c.code.ensures) e)
    c.put-2.ensures.ok
