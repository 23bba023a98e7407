use Rattle.std.proofs.Common.{◌∙◌}
use Rattle.std.specs.Prelude.{codes}
use Rattle.mintcx_warnings.specs.Warnings.{more_text, quoted}
use Rattle.mintcx_warnings.proofs.WrittenLaws.{made_of_five}
use Rattle.mintcx_warnings.proofs.latches.same_label.Goals as goal

pub returns : goal.returns
returns c =
    c.new.ensures ∙ c.into_bytes.ensures
    ∙ made_of_five (codes " ") (quoted c.args.from.now) (codes " to ") (quoted c.args.to.now) (more_text (codes ", and ") c.args.count)
    c.new-lines.ensures c.in_ok-put.ensures.ok c.in_ok-put_quoted.ensures c.in_ok-put-2.ensures.ok c.in_ok-put_quoted-2.ensures c.in_ok-put_more.ensures
