use Rattle.std.proofs.Common.{arith}
use Rattle.std.proofs.lemmas.Grind.{common_steps}
use Rattle.mintc_order.proofs.search.Search.step.Goals as goal

pub returns-in_default-clause-empty : goal.returns-in_default-clause-empty
returns-in_default-clause-empty c = grind (arith, common_steps)

pub give_out-requires-clause-through : goal.give_out-requires-clause-through
give_out-requires-clause-through c = grind (arith, common_steps)

pub returns-then-next-index-clause-search : goal.returns-then-next-index-clause-search
returns-then-next-index-clause-search c = grind (arith, common_steps)

pub index-end-requires : goal.index-end-requires
index-end-requires c = grind (arith, common_steps)

pub refuse-requires-clause-waits : goal.refuse-requires-clause-waits
refuse-requires-clause-waits c = grind (arith, common_steps)

pub returns-clause-search : goal.returns-clause-search
returns-clause-search c = grind (arith, common_steps)
