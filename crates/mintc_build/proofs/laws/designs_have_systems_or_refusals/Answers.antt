use Rattle.mintc_build.proofs.SystemLaws.{systems_lem}
use Rattle.mintc_build.proofs.laws.designs_have_systems_or_refusals.Goals as goal

pub returns : goal.returns
returns c = systems_lem c.arcs_have_order_or_loop.ensures c.orders_exclude_loops.ensures c.ordered_designs_have_systems_or_refusals.ensures
