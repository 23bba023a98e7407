use Rattle.std.proofs.Common.{◌++◌, List, ℕ, ap, ◌∙◌, sym}
use Rattle.std.specs.Prelude.{codes, Option}
use Rattle.std.proofs.lemmas.Result.{on_ok_weaker}
use Rattle.mintcx_picture.specs.Escapes.{escaped}
use Rattle.mintcx_picture.specs.Forms.{tip_text}
use Rattle.mintcx_picture.proofs.WrittenLaws.{in_three}
use Rattle.mintcx_picture.proofs.writing.put_tip.Goals as goal

pub returns-in_ok-put_escaped-in-Some : goal.returns-in_ok-put_escaped-in-Some
returns-in_ok-put_escaped-in-Some c =
    on_ok_weaker c.put-in-Some.result
    (λ e. in_three c.args.lines.now c.put.new.self c.put_escaped.new.lines c.put-in-Some.new.self
    (codes "><title>") (escaped c.in-Some.text) (codes "</title></rect>\n")
    c.in_ok-put-in-Some.ensures.ok (c.in_ok-put_escaped-in-Some.ensures ∙ ap (λ (v : List ℕ). c.put.new.self ++ escaped v) c.bytes.ensures) e
    ∙ ap (λ (t : Option (List ℕ)). c.args.lines.now ++ tip_text t) (sym c.in-Some.is))
    c.put-in-Some.ensures.ok
