use Rattle.std.proofs.Common.{◌∙◌}
use Rattle.mintcx_warnings_files.proofs.TogetherLaws.{made_of_four}
use Rattle.mintcx_warnings_files.proofs.whole.together.Goals as goal

pub returns : goal.returns
returns c =
    c.new.ensures ∙ c.into_bytes.ensures
    ∙ made_of_four c.args.first.now c.args.second.now c.args.third.now c.args.fourth.now c.new-lines.ensures c.in_ok-put.ensures.ok c.in_ok-put-2.ensures.ok c.in_ok-put-3.ensures.ok c.in_ok-put-4.ensures.ok
