use Rattle.std.proofs.Common.{◌∙◌}
use Rattle.std.specs.Prelude.{codes}
use Rattle.mintcx_warnings.specs.Clamped.{at_text}
use Rattle.mintcx_warnings.proofs.WrittenLaws.{made_of_two}
use Rattle.mintcx_warnings.proofs.clamped.clamped_label.Goals as goal

pub returns : goal.returns
returns c =
    c.new.ensures ∙ c.into_bytes.ensures
    ∙ made_of_two (codes " the first") (at_text c.args.first.now) c.new-lines.ensures c.in_ok-put.ensures.ok c.in_ok-put_at.ensures
