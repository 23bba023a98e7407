use Rattle.std.specs.Prelude.{codes}
use Rattle.std.proofs.lemmas.Result.{on_ok_weaker}
use Rattle.mintcx_picture.specs.Forms.{box_text, paint_text, tip_text}
use Rattle.mintcx_picture.proofs.WrittenLaws.{in_four}
use Rattle.mintcx_picture.proofs.writing.put_area.Goals as goal

pub returns : goal.returns
returns c =
    on_ok_weaker c.put_tip.result
    (λ e. in_four c.args.lines.now c.put.new.self c.put_box.new.lines c.put_paint.new.lines c.put_tip.new.lines
    (codes "<rect") (box_text c.args.area.now.x c.args.area.now.y c.args.area.now.width c.args.area.now.height) (paint_text c.args.area.now.paint) (tip_text c.args.area.now.tip)
    c.in_ok-put.ensures.ok c.in_ok-put_box.ensures c.in_ok-put_paint.ensures e)
    c.put_tip.ensures
