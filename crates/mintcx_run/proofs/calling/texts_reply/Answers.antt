use Rattle.mintcx_run.proofs.ReplyLaws.{texts_refused, texts_refused_corner, texts_told}
use Rattle.mintcx_run.proofs.calling.texts_reply.Goals as goal

pub returns-in-Ok-clause-reply : goal.returns-in-Ok-clause-reply
returns-in-Ok-clause-reply g c =
    texts_told _ c.args.shown c.args.order c.args.files.items c.args.warnings c.in-Ok.told c.placed.result (rw c.as_mut_slice.ensures.value at c.in-Ok.ensures.value) c.placed.ensures.placed c.placed.ensures.warned

pub returns-in-Err-Refused-clause-reply : goal.returns-in-Err-Refused-clause-reply
returns-in-Err-Refused-clause-reply g c =
    texts_refused _ c.args.shown c.args.order c.args.files.items c.args.warnings c.in-Err-Refused.refusal c.refused.result
    (rw (c.as_mut_slice.ensures.value, c.in-Err-Refused.field-0-is) at c.in-Err-Refused.ensures.halt) (rw c.in-Err-Refused.field-0-is at c.refused.ensures.reply)

pub returns-in-Err-Corner-clause-reply : goal.returns-in-Err-Corner-clause-reply
returns-in-Err-Corner-clause-reply g c =
    let halted = rw (c.as_mut_slice.ensures.value, c.in-Err-Corner.field-0-is) at c.in-Err-Corner.ensures.halt in
    texts_refused_corner _ c.args.shown c.args.order c.args.files.items c.args.warnings c.in-Err-Corner.corner _ c.refused_corner.result halted.0 halted.1
    (rw c.in-Err-Corner.field-0-is at c.refused_corner.ensures.reply)
