-- An order of arcs leaves no loop among them.
use Rattle.mintc_timing.proofs.SharedOrdered.{none_round}
use Rattle.mintc_order.specs.Refusals.{OrdersExcludeLoops}

pub orders_exclude_loops_lem : OrdersExcludeLoops
orders_exclude_loops_lem arcs order loop is_order h = h.some (none_round arcs order is_order loop h.closed.0 h.closed.1)
