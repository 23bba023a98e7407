use Rattle.std.proofs.Common.{inr}
use Rattle.std.proofs.lemmas.Result.{IfOk-weaker}
use Rattle.mintcx_run.proofs.warned.told_clamps.Goals as goal

pub returns : goal.returns
returns c = IfOk-weaker c.clamped_warnings.result _ _ (λ text h. inr (
  c.if-not-order.false,
  c.in_ok-delays.delays.items,
  c.in_ok-delays.ensures,
  rw c.as_slice.ensures.value at h,
)) c.clamped_warnings.ensures
