use Rattle.mintc_order.proofs.LoopLaws.{orders_exclude_loops_lem}
use Rattle.mintc_order.proofs.laws.orders_exclude_loops.Goals as goal

pub returns : goal.returns
returns c = orders_exclude_loops_lem
