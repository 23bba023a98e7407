use Rattle.std.proofs.Common.{◌++◌, List, ℕ, ap, ◌∙◌}
use Rattle.std.specs.Prelude.{codes}
use Rattle.std.proofs.lemmas.Result.{on_ok_weaker}
use Rattle.mintcx_picture.specs.Attributes.{worded}
use Rattle.mintcx_picture.specs.Colours.{colour_code}
use Rattle.mintcx_picture.specs.Forms.{box_text}
use Rattle.mintcx_picture.specs.declared.colours.Colour.TheVariants.{Paper}
use Rattle.mintcx_picture.proofs.WrittenLaws.{in_four}
use Rattle.mintcx_picture.proofs.pictures.put_paper.Goals as goal

pub returns : goal.returns
returns c =
    on_ok_weaker c.put-2.result
    (λ e. in_four c.args.lines.now c.put.new.self c.put_box.new.lines c.put_worded.new.lines c.put-2.new.self
    (codes "<rect") (box_text 0 0 c.args.head.now.width c.args.head.now.height) (worded (codes " rx=\"6\" fill=\"") (colour_code Paper)) (codes "/>\n")
    c.in_ok-put.ensures.ok c.in_ok-put_box.ensures (c.in_ok-put_worded.ensures ∙ ap (λ (v : List ℕ). c.put_box.new.lines ++ worded (codes " rx=\"6\" fill=\"") v) c.code.ensures) e)
    c.put-2.ensures.ok
