use Rattle.mintc_flatten_hierarchy.specs.Sources.{source_of}
use Rattle.mintc_flatten_binding.proofs.SharedOrderingLaws.{ordered, held}
use Rattle.mintc_flatten_binding.proofs.order.modules_in_order.Goals as goal

pub returns-clause-order : goal.returns-clause-order
returns-clause-order c = ordered (source_of c.args.cells.now c.args.modules.now) c.loop-number.search.order.items c.loop-number.search.places.items c.loop-number.search.nexts.items c.loop-number.invariant

pub returns-clause-whole : goal.returns-clause-whole
returns-clause-whole c = held (source_of c.args.cells.now c.args.modules.now) c.loop-number.search.order.items c.loop-number.search.places.items c.loop-number.search.nexts.items c.deref.result.now c.loop-number.invariant c.deref.ensures.value (c.are_placed.ensures c.if-not-are_placed.false)
