use Rattle.std.proofs.Common.{arith}
use Rattle.std.proofs.lemmas.Grind.{common_steps}
use Rattle.mintc_flatten_binding.proofs.order.PostOrder.step.Goals as goal

pub bounds-bindings-number : goal.bounds-bindings-number
bounds-bindings-number c = grind (arith, common_steps)

pub look-requires-clause-next : goal.look-requires-clause-next
look-requires-clause-next c = grind (arith, common_steps)

pub look-requires-clause-binding : goal.look-requires-clause-binding
look-requires-clause-binding c = grind (arith, common_steps)

pub look-requires-clause-small : goal.look-requires-clause-small
look-requires-clause-small c = grind (arith, common_steps)

pub give_out-requires-clause-passed : goal.give_out-requires-clause-passed
give_out-requires-clause-passed c = grind (arith, common_steps)
