use Rattle.std.proofs.lemmas.Grind.{common_steps}
use Rattle.std.proofs.Common.{arith}
use Rattle.mintc_order.proofs.Ending.{ordered_at_end, whole_at_end}
use Rattle.mintc_order.proofs.searched_order.Goals as goal

pub order_from_postorder-requires-clause-ordered : goal.order_from_postorder-requires-clause-ordered
order_from_postorder-requires-clause-ordered c = ordered_at_end c.loop-root.invariant.search c.deref.result.now c.deref.ensures.value

pub order_from_postorder-requires-clause-whole : goal.order_from_postorder-requires-clause-whole
order_from_postorder-requires-clause-whole c =
    whole_at_end c.loop-root.invariant.search c.deref.result.now c.deref.ensures.value c.loop-root.invariant.empty (λ bit h. c.loop-root.invariant.met bit (omega arith))

pub loop-root-init : goal.loop-root-init
loop-root-init c = grind (arith, common_steps)
