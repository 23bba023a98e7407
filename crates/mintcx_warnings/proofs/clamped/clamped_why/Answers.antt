use Rattle.std.proofs.Common.{◌∙◌}
use Rattle.std.specs.Prelude.{codes}
use Rattle.mintcx_warnings.specs.Clamped.{at_text}
use Rattle.mintcx_warnings.proofs.WrittenLaws.{made_of_four}
use Rattle.mintcx_warnings.proofs.clamped.clamped_why.Goals as goal

pub returns : goal.returns
returns c =
    c.new.ensures ∙ c.into_bytes.ensures
    ∙ made_of_four (codes "the least is ") c.args.amount.now (at_text c.args.least.now) (codes "; a cycle found so is safe for setups, holds may be told too well")
    c.new-lines.ensures c.in_ok-put.ensures.ok c.in_ok-put-2.ensures.ok c.in_ok-put_at.ensures c.in_ok-put-3.ensures.ok
