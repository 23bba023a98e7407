use Rattle.std.proofs.Common.{◌∙◌, sym}
use Rattle.mintcx_run.proofs.ReplyLaws.{made_own, made_shown}
use Rattle.mintcx_run.proofs.calling.made_reply.Goals as goal

pub returns-then-is_own-clause-reply : goal.returns-then-is_own-clause-reply
returns-then-is_own-clause-reply g c =
    made_own _ c.args.order c.args.files.items c.args.warnings c.args.flat c.own_reply.result (sym c.is_own.ensures ∙ c.if-is_own.true) c.own_reply.ensures.reply

pub returns-else-is_own-clause-reply : goal.returns-else-is_own-clause-reply
returns-else-is_own-clause-reply g c =
    made_shown _ c.args.order c.args.files.items c.args.warnings c.args.flat c.texts_reply.result (sym c.is_own.ensures ∙ c.if-is_own.false) c.texts_reply.ensures.reply
