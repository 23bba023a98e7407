use Rattle.std.proofs.Common.{◌∙◌}
use Rattle.std.specs.Prelude.{codes}
use Rattle.mintcx_warnings.specs.Warnings.{more_text, quoted}
use Rattle.mintcx_warnings.proofs.WrittenLaws.{made_of_three}
use Rattle.mintcx_warnings.proofs.ports.ports_label.Goals as goal

pub returns : goal.returns
returns c =
    c.new.ensures ∙ c.into_bytes.ensures
    ∙ made_of_three (codes " ") (quoted c.args.first.now) (more_text (codes ", and ") c.args.count)
    c.new-lines.ensures c.in_ok-put.ensures.ok c.in_ok-put_quoted.ensures c.in_ok-put_more.ensures
