use Rattle.std.proofs.Common.{◌≡◌, ◌∙◌, get_or}
use Rattle.mintc_timing.specs.Design.{no_arc}
use Rattle.mintc_timing.proofs.SharedOrdered.{inside}
use Rattle.mintc_checker.proofs.reading.arc_at_place.Goals as goal

pub bounds-arcs-number : goal.bounds-arcs-number
bounds-arcs-number c =
    let items : c.items.result.now ≡ c.args.order.now = c.items.ensures ∙ c.arcs.ensures in
    rw (c.arcs-2.ensures.value, items) (inside c.args.flat.now.arcs c.args.order.now c.requires.order c.args.place c.requires.place)

pub returns-clause-kept : goal.returns-clause-kept
returns-clause-kept c =
    let items : c.items.result.now ≡ c.args.order.now = c.items.ensures ∙ c.arcs.ensures in
    rw (c.arcs-2.ensures.value, items)
    (c.arcs-2.ensures.kept.each_arc (get_or c.args.order.now c.args.place 0) no_arc (inside c.args.flat.now.arcs c.args.order.now c.requires.order c.args.place c.requires.place))
