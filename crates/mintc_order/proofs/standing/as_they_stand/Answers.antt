use Rattle.std.proofs.Common.{◌≡◌, length, arith}
use Rattle.mintc_order.proofs.StandingLaws.{order_as_they_stand}
use Rattle.mintc_order.proofs.standing.as_they_stand.Goals as goal

pub returns : goal.returns
returns c =
    let all : c.loop-number.number ≡ length c.args.arcs.now = omega (arith, c.loop-number-test.false, c.loop-number.auto.number-end) in
    order_as_they_stand c.args.arcs.now c.loop-number.numbers.items c.requires.standing (omega (arith, c.loop-number.invariant.count, all))
    (λ k below. c.loop-number.invariant.own k (omega (arith, below, all)))
