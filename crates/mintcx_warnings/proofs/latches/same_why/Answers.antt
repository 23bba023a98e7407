use Rattle.std.proofs.Common.{◌∙◌}
use Rattle.std.specs.Prelude.{codes}
use Rattle.mintcx_warnings.proofs.WrittenLaws.{made_of_two}
use Rattle.mintcx_warnings.proofs.latches.same_why.Goals as goal

pub returns : goal.returns
returns c =
    c.new.ensures ∙ c.into_bytes.ensures
    ∙ made_of_two (codes "data of one opening is taken by the next one, a cycle later; ") (codes "where flops were split into latches the same opening is often meant")
    c.new-lines.ensures c.in_ok-put.ensures.ok c.in_ok-put-2.ensures.ok
