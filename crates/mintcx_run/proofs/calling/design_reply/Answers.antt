use Rattle.mintcx_run.proofs.ReplyLaws.{design_apart, design_merged}
use Rattle.mintcx_run.proofs.calling.design_reply.Goals as goal

pub returns-then-order-clause-reply : goal.returns-then-order-clause-reply
returns-then-order-clause-reply g c fronts clamps =
    let warned = rw c.as_slice.ensures.value at (c.all_warnings-warnings.ensures fronts clamps) in
    let told = rw (c.restored-taken.ensures.value, c.cells_place-at.ensures) at c.apart_reply.ensures.reply in
    design_apart _ c.args.order fronts _ c.args.files.items c.all_warnings-warnings.result c.apart_reply.result c.if-order.true warned told

pub returns-else-order-clause-reply : goal.returns-else-order-clause-reply
returns-else-order-clause-reply g c fronts clamps =
    let warned = rw c.as_slice.ensures.value at (c.all_warnings-warnings.ensures fronts clamps) in
    design_merged _ c.args.order fronts _ c.args.files.items c.all_warnings-warnings.result c.texts_reply.result c.if-order.false warned c.texts_reply.ensures.reply
