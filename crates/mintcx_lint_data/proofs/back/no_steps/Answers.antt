use Rattle.std.proofs.Common.{◌++◌, ◌∷◌, [], ◌∙◌, sym, ap}
use Rattle.mintcx_lint_data.proofs.RangeLaws.{range_more}
use Rattle.mintcx_lint_data.proofs.back.no_steps.Goals as goal

pub loop-bit-preserved : goal.loop-bit-preserved
loop-bit-preserved c = c.in_ok-push.ensures.items ∙ ap (λ v. v ++ c.loop-bit.bit ∷ []) c.loop-bit.invariant ∙ sym (range_more c.loop-bit.bit)
