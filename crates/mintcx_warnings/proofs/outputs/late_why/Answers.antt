use Rattle.std.proofs.Common.{◌∙◌}
use Rattle.std.specs.Prelude.{codes}
use Rattle.mintcx_warnings.specs.Warnings.{quoted}
use Rattle.mintcx_warnings.proofs.WrittenLaws.{made_of_three}
use Rattle.mintcx_warnings.proofs.outputs.late_why.Goals as goal

pub returns : goal.returns
returns c =
    c.new.ensures ∙ c.into_bytes.ensures
    ∙ made_of_three (codes "all latches and flops on ") (quoted c.args.phase.now) (codes " are flops")
    c.new-lines.ensures c.in_ok-put.ensures.ok c.in_ok-put_quoted.ensures c.in_ok-put-2.ensures.ok
