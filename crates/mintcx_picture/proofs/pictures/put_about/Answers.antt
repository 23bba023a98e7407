use Rattle.std.proofs.Common.{◌++◌, List, ℕ, ap, ◌∙◌}
use Rattle.std.specs.Prelude.{codes}
use Rattle.std.proofs.lemmas.Result.{on_ok_weaker}
use Rattle.mintcx_picture.specs.Escapes.{escaped}
use Rattle.mintcx_picture.proofs.WrittenLaws.{in_five}
use Rattle.mintcx_picture.proofs.pictures.put_about.Goals as goal

pub returns : goal.returns
returns c =
    on_ok_weaker c.put-3.result
    (λ e. in_five c.args.lines.now c.put.new.self c.put_escaped.new.lines c.put-2.new.self c.put_escaped-2.new.lines c.put-3.new.self
    (codes "<title>") (escaped c.args.head.now.title) (codes "</title>\n<desc>") (escaped c.args.head.now.about) (codes "</desc>\n")
    c.in_ok-put.ensures.ok (c.in_ok-put_escaped.ensures ∙ ap (λ (v : List ℕ). c.put.new.self ++ escaped v) c.bytes.ensures) c.in_ok-put-2.ensures.ok (c.in_ok-put_escaped-2.ensures ∙ ap (λ (v : List ℕ). c.put-2.new.self ++ escaped v) c.bytes-2.ensures) e)
    c.put-3.ensures.ok
