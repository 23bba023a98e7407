use Rattle.mintc_order.proofs.SharedOrderLaws.{arcs_have_order_or_loop_lem}
use Rattle.mintc_order.proofs.laws.arcs_have_order_or_loop.Goals as goal

pub returns : goal.returns
returns c = arcs_have_order_or_loop_lem
