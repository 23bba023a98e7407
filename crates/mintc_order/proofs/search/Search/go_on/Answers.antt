use Rattle.std.proofs.Common.{arith}
use Rattle.std.proofs.lemmas.Grind.{common_steps}
use Rattle.mintc_order.proofs.search.Search.go_on.Goals as goal

pub pass-next-requires-clause-first : goal.pass-next-requires-clause-first
pass-next-requires-clause-first c = grind (arith, common_steps)

pub pass-next-requires-clause-stop : goal.pass-next-requires-clause-stop
pass-next-requires-clause-stop c = grind (arith, common_steps)

pub returns-clause-stop : goal.returns-clause-stop
returns-clause-stop c = grind (arith, common_steps)

pub returns-clause-next : goal.returns-clause-next
returns-clause-next c = grind (arith, common_steps)
