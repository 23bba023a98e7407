use Rattle.mintcx_run.proofs.ReplyLaws.{explained}
use Rattle.mintcx_run.proofs.orders.order_of.Goals as goal

pub returns-in-Explain-clause-reply : goal.returns-in-Explain-clause-reply
returns-in-Explain-clause-reply c = explained c.args.asked c.in-Explain.topic c.explanation_reply.result c.in-Explain.is c.explanation_reply.ensures.reply
