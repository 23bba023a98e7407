use Rattle.mintc_corners.proofs.LoopLaws.{lists_more, systems_taken}
use Rattle.mintc_corners.proofs.joining.own_lists.Goals as goal

pub loop-system-preserved : goal.loop-system-preserved
loop-system-preserved c =
    let i = c.loop-system.system-index in
    let t = c.system-item.result in (
      lists_more c.args.systems.now i t c.loop-system-test.true c.system-item.is c.loop-system.lists.items c.push.new.self.items c.in_ok-links.field-0 c.loop-system.invariant.0
          c.in_ok-links.ensures.nodes c.in_ok-links.ensures.links c.in_ok-push.ensures.items,
      systems_taken c.args.systems.now i t c.loop-system-test.true c.system-item.is c.loop-system.invariant.1 c.links.ensures.design c.links.ensures.kept,
    )
