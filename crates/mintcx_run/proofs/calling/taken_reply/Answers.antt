use Rattle.std.proofs.Common.{inl, refl}
use Rattle.mintcx_run.proofs.ReplyLaws.{taken_given}
use Rattle.mintcx_run.proofs.calling.taken_reply.Goals as goal

pub returns-else-order-clause-reply : goal.returns-else-order-clause-reply
returns-else-order-clause-reply g c fronts clamps =
    taken_given _ c.args.order fronts c.args.files.items c.args.files.items c.design_reply.result (inl (c.if-order.false, refl)) (c.design_reply.ensures.reply fronts clamps)
