use Rattle.std.proofs.Common.{◌++◌, List, ℕ, ap, ◌∙◌}
use Rattle.std.specs.Prelude.{codes}
use Rattle.std.proofs.lemmas.Result.{on_ok_weaker}
use Rattle.mintcx_picture.specs.Attributes.{numbered, worded}
use Rattle.mintcx_picture.specs.Colours.{colour_code}
use Rattle.mintcx_picture.specs.Forms.{dash_text}
use Rattle.mintcx_picture.specs.Paths.{steps_text}
use Rattle.mintcx_picture.specs.declared.paths.Step.{Step}
use Rattle.mintcx_picture.proofs.WrittenLaws.{in_six}
use Rattle.mintcx_picture.proofs.writing.put_line.Goals as goal

pub returns : goal.returns
returns c =
    on_ok_weaker c.put-3.result
    (λ e. in_six c.args.lines.now c.put.new.self c.put_steps.new.lines c.put_worded.new.lines c.put_numbered.new.lines c.put-2.new.self c.put-3.new.self
    (codes "<path d=\"") (steps_text c.args.line.now.steps) (worded (codes "\" fill=\"none\" stroke=\"") (colour_code c.args.line.now.stroke)) (numbered (codes " stroke-width=\"") c.args.line.now.width) (dash_text c.args.line.now.dashed) (codes "/>\n")
    c.in_ok-put.ensures.ok (c.in_ok-put_steps.ensures ∙ ap (λ (v : List Step). c.put.new.self ++ steps_text v) c.items.ensures) (c.in_ok-put_worded.ensures ∙ ap (λ (v : List ℕ). c.put_steps.new.lines ++ worded (codes "\" fill=\"none\" stroke=\"") v) c.code.ensures) c.in_ok-put_numbered.ensures (c.in_ok-put-2.ensures.ok ∙ ap (λ (v : List ℕ). c.put_numbered.new.lines ++ v) c.dash_text.ensures) e)
    c.put-3.ensures.ok
