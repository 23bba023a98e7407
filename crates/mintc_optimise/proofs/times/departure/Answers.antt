use Rattle.mintc_optimise.proofs.TimesLaws.{departure_in}
use Rattle.mintc_optimise.proofs.times.departure.Goals as goal

pub returns-clause-in_range : goal.returns-clause-in_range
returns-clause-in_range c =
    departure_in c.args.system.now.flat c.args.values.now c.requires.sayable c.flat.ensures.design c.args.number c.requires.number c.element-element.result.now c.element-element.ensures.value
    c.element_node-node.result c.start_node-start.result (rw c.flat.ensures.value at c.element_node-node.ensures.value) c.start_node-start.ensures c.if-element.false
