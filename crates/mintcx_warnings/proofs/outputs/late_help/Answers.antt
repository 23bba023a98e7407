use Rattle.std.proofs.Common.{◌∙◌}
use Rattle.std.specs.Prelude.{codes}
use Rattle.mintcx_warnings.specs.Warnings.{quoted}
use Rattle.mintcx_warnings.proofs.WrittenLaws.{made_of_three}
use Rattle.mintcx_warnings.proofs.outputs.late_help.Goals as goal

pub returns : goal.returns
returns c =
    c.new.ensures ∙ c.into_bytes.ensures
    ∙ made_of_three (codes "bind a phase to end where ") (quoted c.args.phase.now) (codes " starts, and list the output on it: `mintcx explain outputs`")
    c.new-lines.ensures c.in_ok-put.ensures.ok c.in_ok-put_quoted.ensures c.in_ok-put-2.ensures.ok
