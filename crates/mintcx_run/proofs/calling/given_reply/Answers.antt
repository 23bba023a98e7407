use Rattle.mintcx_run.proofs.ReplyLaws.{given_answered}
use Rattle.mintcx_run.proofs.calling.given_reply.Goals as goal

pub returns-in-Ok-clause-reply : goal.returns-in-Ok-clause-reply
returns-in-Ok-clause-reply g c =
    given_answered c.args.given _ c.in-Ok.order c.call_reply.result _ _ _ c.in-Ok.ensures.value (rw c.in-Ok.ensures.same at c.call_reply.ensures.reply) c.in-Ok.ensures.reads c.call_reply.ensures.reads
