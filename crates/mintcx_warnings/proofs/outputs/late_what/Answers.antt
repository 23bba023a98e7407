use Rattle.std.proofs.Common.{◌++◌, ◌∙◌, ap}
use Rattle.std.specs.Prelude.{codes}
use Rattle.mintcx_warnings.specs.Outputs.{late_kind, late_verb}
use Rattle.mintcx_warnings.specs.Warnings.{more_text, quoted}
use Rattle.mintcx_warnings.proofs.WrittenLaws.{made_of_six}
use Rattle.mintcx_warnings.proofs.outputs.late_what.Goals as goal

pub returns : goal.returns
returns c =
    let late = c.args.late.now in
    c.new.ensures ∙ c.into_bytes.ensures
    ∙ made_of_six (late_kind late.count) (quoted late.output.now) (more_text (codes " and ") late.count) (late_verb late.count) (codes " due later than the next edge of ") (quoted late.phase.now)
    c.new-lines.ensures
    (c.in_ok-put.ensures.ok ∙ ap (λ v. c.new-lines.result ++ v) c.late_kind.ensures)
    c.in_ok-put_quoted.ensures c.in_ok-put_more.ensures
    (c.in_ok-put-2.ensures.ok ∙ ap (λ v. c.put_more.new.lines ++ v) c.late_verb.ensures)
    c.in_ok-put-3.ensures.ok c.in_ok-put_quoted-2.ensures
