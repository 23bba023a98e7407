use Rattle.std.proofs.Common.{◌++◌, List, ℕ, ap, ◌∙◌}
use Rattle.std.specs.Prelude.{codes}
use Rattle.std.proofs.lemmas.Result.{on_ok_weaker}
use Rattle.mintcx_picture.specs.Attributes.{numbered, worded}
use Rattle.mintcx_picture.specs.Colours.{colour_code}
use Rattle.mintcx_picture.specs.Forms.{anchor_text, bold_text, spot_text}
use Rattle.mintcx_picture.proofs.WrittenLaws.{in_five}
use Rattle.mintcx_picture.proofs.writing.put_label_head.Goals as goal

pub returns : goal.returns
returns c =
    on_ok_weaker c.put-2.result
    (λ e. in_five c.args.lines.now c.put_spot.new.lines c.put_numbered.new.lines c.put_worded.new.lines c.put.new.self c.put-2.new.self
    (spot_text c.args.label.now.x c.args.label.now.y) (numbered (codes " font-size=\"") c.args.label.now.size) (worded (codes " fill=\"") (colour_code c.args.label.now.fill)) (anchor_text c.args.label.now.anchor) (bold_text c.args.label.now.bold)
    c.in_ok-put_spot.ensures c.in_ok-put_numbered.ensures (c.in_ok-put_worded.ensures ∙ ap (λ (v : List ℕ). c.put_numbered.new.lines ++ worded (codes " fill=\"") v) c.code.ensures) (c.in_ok-put.ensures.ok ∙ ap (λ (v : List ℕ). c.put_worded.new.lines ++ v) c.anchor_text.ensures) (e ∙ ap (λ (v : List ℕ). c.put.new.self ++ v) c.bold_text.ensures))
    c.put-2.ensures.ok
