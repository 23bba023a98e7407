use Rattle.std.proofs.lemmas.Grind.{common_steps}
use Rattle.std.proofs.Common.{arith}
use Rattle.mintc_order.proofs.Counting.{IsSearch-few}
use Rattle.mintc_order.proofs.search.Search.follow.Goals as goal

pub loop-smaller : goal.loop-smaller
loop-smaller c = omega (arith, IsSearch-few c.in_ok-step.ensures.search.1, c.in_ok-step.ensures.step c.if-branch.true)

pub returns-then-index-gt-UNMET-clause-met : goal.returns-then-index-gt-UNMET-clause-met
returns-then-index-gt-UNMET-clause-met c = grind (arith, common_steps)
