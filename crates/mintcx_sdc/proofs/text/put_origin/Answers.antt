use Rattle.std.proofs.Common.{◌++◌, List, ℕ, ap, ◌∙◌}
use Rattle.std.specs.Prelude.{codes}
use Rattle.std.proofs.lemmas.Result.{on_ok_weaker}
use Rattle.mintcx_sdc.specs.Texts.{plain}
use Rattle.mintcx_sdc.proofs.WrittenLaws.{in_four}
use Rattle.mintcx_sdc.proofs.text.put_origin.Goals as goal

pub returns : goal.returns
returns c =
    let titles = c.args.titles.now in
    on_ok_weaker c.put_plain-2.result
    (λ e. in_four c.args.lines.now c.put.new.self c.put_plain.new.lines c.put-2.new.self c.put_plain-2.new.lines
    (codes "# mintcx 0.1.0: clocks of ") (plain titles.subject) (codes " from ") (plain titles.source)
    c.in_ok-put.ensures.ok (c.in_ok-put_plain.ensures ∙ ap (λ (v : List ℕ). c.put.new.self ++ plain v) c.bytes.ensures)
    c.in_ok-put-2.ensures.ok (e ∙ ap (λ (v : List ℕ). c.put-2.new.self ++ plain v) c.bytes-2.ensures))
    c.put_plain-2.ensures
