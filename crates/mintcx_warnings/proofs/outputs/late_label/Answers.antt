use Rattle.std.proofs.Common.{◌∙◌}
use Rattle.std.specs.Prelude.{codes}
use Rattle.mintcx_warnings.specs.Outputs.{width_text}
use Rattle.mintcx_warnings.specs.Warnings.{quoted}
use Rattle.mintcx_warnings.proofs.WrittenLaws.{made_of_five}
use Rattle.mintcx_warnings.proofs.outputs.late_label.Goals as goal

pub returns : goal.returns
returns c =
    c.new.ensures ∙ c.into_bytes.ensures
    ∙ made_of_five (codes " due where ") (quoted c.args.phase.now) (codes " ends, a cycle and ") (width_text c.args.width.now) (codes " after its data's edge")
    c.new-lines.ensures c.in_ok-put.ensures.ok c.in_ok-put_quoted.ensures c.in_ok-put-2.ensures.ok c.in_ok-put_width.ensures c.in_ok-put-3.ensures.ok
