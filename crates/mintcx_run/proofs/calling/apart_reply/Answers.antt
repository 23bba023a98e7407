use Rattle.mintcx_run.proofs.ReplyLaws.{apart_halted, apart_made}
use Rattle.mintcx_run.proofs.calling.apart_reply.Goals as goal

pub returns-in-Ok-clause-reply : goal.returns-in-Ok-clause-reply
returns-in-Ok-clause-reply g c =
    apart_made _ c.args.order c.args.files.items c.args.warnings c.in-Ok.flat c.made_reply.result (rw c.as_slice.ensures.value at c.in-Ok.ensures.value) c.made_reply.ensures.reply

pub returns-in-Err-clause-reply : goal.returns-in-Err-clause-reply
returns-in-Err-clause-reply g c =
    apart_halted _ c.args.order c.args.files.items c.args.warnings c.in-Err.why c.halt_reply.result (rw c.as_slice.ensures.value at c.in-Err.ensures.halt) c.halt_reply.ensures.reply
