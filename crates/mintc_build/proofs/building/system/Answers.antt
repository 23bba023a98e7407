use Rattle.std.proofs.Common.{arith}
use Rattle.std.proofs.lemmas.Result.{err_from_is_err_and}
use Rattle.mintc_build.proofs.Stopping.{StopsAt-extremes}
use Rattle.mintc_build.proofs.building.system.Goals as goal

pub new-requires : goal.new-requires
new-requires c =
    let few = c.in_ok-pairs.ensures.few in
    let kept = c.in_ok-pairs.ensures.kept in
    record { ordered = c.in_ok-order.ensures.order; extremes = c.in_ok-pairs.ensures.pairs; few = omega (arith, few, kept.pairs); short = c.in_ok-pairs.ensures.short }

pub returns-in_err-pairs-clause-stop : goal.returns-in_err-pairs-clause-stop
returns-in_err-pairs-clause-stop c =
    let p = err_from_is_err_and c.from_residual-in_err-pairs.result c.from_residual-in_err-pairs.ensures.1 in
    rw (p.1, p.2) (StopsAt-extremes c.args.limits.now c.args.flat c.in_err-pairs.field-0.0 (λ loop. c.orders_exclude_loops.ensures c.args.flat.arcs c.in_ok-order.order loop c.in_ok-order.ensures.order) c.in_err-pairs.ensures.stop)
