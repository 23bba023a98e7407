use Rattle.std.proofs.Common.{arith, ap, ◌∙◌}
use Rattle.std.proofs.lemmas.Grind.{common_steps}
use Rattle.mintc_constraints.specs.Duality.{departures_of}
use Rattle.mintc_corners.specs.Joined.{departures_of_all}
use Rattle.mintc_corners.proofs.LoopLaws.{departures_more, in_range_more, sayable_here}
use Rattle.mintc_corners.proofs.departing.all_departures.Goals as goal

pub loop-system-preserved : goal.loop-system-preserved
loop-system-preserved c =
    let systems = c.args.systems.now in
    let i = c.loop-system.system-index in
    let t = c.system-item.result in
    let clock = c.clock_nodes-clock.result in
    let before = c.loop-system.before in
    let values = c.args.values.now in
    let elements = c.elements-count.ensures.value ∙ ap (λ d. d.elements) c.flat.ensures.value in
    let own = rw elements at (c.deref.ensures.value ∙ c.in_ok-own.ensures) in
    let ds = c.in_ok-departures.ensures.value ∙ ap (departures_of t.flat) own in
    rw elements (
      departures_more systems i t c.loop-system-test.true c.system-item.is clock before values c.in_ok-departures.field-0 c.loop-system.all.items c.push.new.self.items (departures_of_all systems values)
          c.loop-system.invariant.0 ds c.in_ok-push.ensures.items,
      (sayable_here systems i t c.loop-system-test.true c.system-item.is clock before values c.loop-system.invariant.1).1,
      in_range_more t c.in_ok-departures.field-0 _ c.loop-system.all.items c.push.new.self.items c.flat.ensures.design c.loop-system.invariant.2 c.in_ok-departures.ensures.in_range ds c.in_ok-push.ensures.items,
    )

pub corner_values-requires-clause-before : goal.corner_values-requires-clause-before
corner_values-requires-clause-before c = grind (arith, common_steps)

pub corner_values-requires-clause-inside : goal.corner_values-requires-clause-inside
corner_values-requires-clause-inside c = grind (arith, common_steps)

pub departures-requires : goal.departures-requires
departures-requires c = grind (arith, common_steps)

pub overflow_add-before : goal.overflow_add-before
overflow_add-before c = grind (arith, common_steps)

pub returns-clause-value : goal.returns-clause-value
returns-clause-value c = grind (arith, common_steps)
