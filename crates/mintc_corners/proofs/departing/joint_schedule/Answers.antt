use Rattle.std.proofs.Common.{◌∙◌, ap, length}
use Rattle.mintc_corners.proofs.SharedScheduleLaws.{first_schedule}
use Rattle.mintc_corners.proofs.departing.joint_schedule.Goals as goal

pub returns-clause-value : goal.returns-clause-value
returns-clause-value c =
    let count = ap length c.elements-count.ensures.value ∙ ap (λ d. length d.elements) c.flat.ensures.value in
    c.schedule.ensures.value
    ∙ first_schedule c.args.systems.now c.index-systems-0.result c.clock_nodes-clock.result _ c.args.cycle.now.num c.args.cycle.now.den c.args.values.now c.deref.result.now
    c.requires.some c.index-systems-0.is c.clock_nodes-clock.ensures.value count c.requires.sayable (c.deref.ensures.value ∙ c.in_ok-own.ensures)
