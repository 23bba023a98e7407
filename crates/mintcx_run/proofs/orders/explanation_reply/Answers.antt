use Rattle.std.proofs.Common.{inr}
use Rattle.mintcx_run.proofs.orders.explanation_reply.Goals as goal

pub returns-in-Some-clause-reply : goal.returns-in-Some-clause-reply
returns-in-Some-clause-reply c =
    inr (c.in-Some.page.now, rw c.bytes.ensures at c.in-Some.ensures, rw c.as_bytes.ensures.value at c.saying.ensures)
