use Rattle.mintcx_run.proofs.ReplyLaws.{words_given, words_wrong}
use Rattle.mintcx_run.proofs.calling.reply_to.Goals as goal

pub returns-in-Ok-clause-reply : goal.returns-in-Ok-clause-reply
returns-in-Ok-clause-reply g c = words_given _ c.in-Ok.given _ c.given_reply.result _ _ c.in-Ok.ensures.value c.given_reply.ensures.reply

pub returns-in-Err-clause-reply : goal.returns-in-Err-clause-reply
returns-in-Err-clause-reply g c = words_wrong _ _ c.in-Err.reply _ c.in-Err.ensures.reply
