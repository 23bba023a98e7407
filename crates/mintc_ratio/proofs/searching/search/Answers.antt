use Rattle.std.proofs.Common.{arith, ap}
use Rattle.mintc_constraints.specs.Rooms.{Space}
use Rattle.mintc_ratio.proofs.BeginningLaws.{climbing-begun, least_rest}
use Rattle.mintc_ratio.proofs.searching.search.Goals as goal

pub search_from-requires-clause-climbing : goal.search_from-requires-clause-climbing
search_from-requires-clause-climbing g c =
    let some = c.in-Chain.ensures.some in (
      c.args.steps.now,
      climbing-begun c.args.links.now c.in-Chain.ensures.kept c.args.steps.now c.taken-begun.result c.test_at.new.room c.in-Held.sums c.test_at.new.steps
          c.in-Held.ensures c.taken-begun.ensures (omega arith) c.in-Chain.ensures.cost,
    )

pub returns-in-Values-clause-searched : goal.returns-in-Values-clause-searched
returns-in-Values-clause-searched g c =
    let tested = c.in-Values.ensures.tested in
    least_rest c.args.links.now c.new-rest.result c.test_at.new.room c.hold_rest.new.room (omega (arith, c.in-Values.ensures.kept.nodes.0)) c.new-rest.ensures tested.0 tested.1 (ap (λ (r : Space). r.values) c.hold_rest.ensures.kept)
    c.hold_rest.ensures.chain c.hold_rest.ensures.delay c.hold_rest.ensures.cycles

pub returns-in-Held-clause-cost : goal.returns-in-Held-clause-cost
returns-in-Held-clause-cost g c =
    let some = c.in-Chain.ensures.some in
    c.search_from.ensures.cost c.args.steps.now (climbing-begun c.args.links.now c.in-Chain.ensures.kept c.args.steps.now c.taken-begun.result c.test_at.new.room c.in-Held.sums c.test_at.new.steps
    c.in-Held.ensures c.taken-begun.ensures (omega arith) c.in-Chain.ensures.cost)
