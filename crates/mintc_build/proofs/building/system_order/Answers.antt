use Rattle.std.proofs.Common.{arith}
use Rattle.std.proofs.lemmas.Result.{err_from_is_err_and}
use Rattle.mintc_build.proofs.Stopping.{StopsAt-extremes}
use Rattle.mintc_build.proofs.building.system_order.Goals as goal

pub returns-clause-system : goal.returns-clause-system
returns-clause-system c =
    let is = c.in_ok-refuse_pairs.ensures.few in
    let few = is.2 in
    let kept = c.in_ok-refuse_pairs.ensures.kept in
    (is.0, record { ordered = c.in_ok-order.ensures.order; extremes = is.1; few = omega (arith, few, kept.pairs); short = c.in_ok-refuse_pairs.ensures.short }, few)

pub returns-in_err-refuse_pairs-clause-stop : goal.returns-in_err-refuse_pairs-clause-stop
returns-in_err-refuse_pairs-clause-stop c =
    let p = err_from_is_err_and c.from_residual-in_err-refuse_pairs.result c.from_residual-in_err-refuse_pairs.ensures.1 in
    rw (p.1, p.2) (StopsAt-extremes c.args.limits.now c.args.flat.now c.in_err-refuse_pairs.field-0.0 (λ loop. c.orders_exclude_loops.ensures c.args.flat.now.arcs c.in_ok-order.order loop c.in_ok-order.ensures.order) c.in_err-refuse_pairs.ensures.stop)
