use Rattle.std.proofs.Common.{◌++◌, List, ℕ, ap, ◌∙◌}
use Rattle.std.specs.Prelude.{codes}
use Rattle.std.proofs.lemmas.Result.{on_ok_weaker}
use Rattle.mintcx_picture.specs.Escapes.{escaped}
use Rattle.mintcx_picture.specs.Forms.{label_head}
use Rattle.mintcx_picture.proofs.WrittenLaws.{in_five}
use Rattle.mintcx_picture.proofs.writing.put_label.Goals as goal

pub returns : goal.returns
returns c =
    on_ok_weaker c.put-3.result
    (λ e. in_five c.args.lines.now c.put.new.self c.put_label_head.new.lines c.put-2.new.self c.put_escaped.new.lines c.put-3.new.self
    (codes "<text") (label_head c.args.label.now) (codes ">") (escaped c.args.label.now.text) (codes "</text>\n")
    c.in_ok-put.ensures.ok c.in_ok-put_label_head.ensures c.in_ok-put-2.ensures.ok (c.in_ok-put_escaped.ensures ∙ ap (λ (v : List ℕ). c.put-2.new.self ++ escaped v) c.bytes.ensures) e)
    c.put-3.ensures.ok
