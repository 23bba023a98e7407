use Rattle.std.proofs.Common.{arith}
use Rattle.std.proofs.lemmas.Grind.{common_steps}
use Rattle.mintc_timing_text.proofs.table_text.keep.Goals as goal

pub returns-then-len-most : goal.returns-then-len-most
returns-then-len-most c = grind (arith, common_steps)

pub returns : goal.returns
returns c = grind (arith, common_steps)
