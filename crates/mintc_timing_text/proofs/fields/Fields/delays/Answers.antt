use Rattle.std.proofs.Common.{arith}
use Rattle.mintc_timing_text.proofs.SharedFieldsLaws.{read_back}
use Rattle.mintc_timing_text.proofs.fields.Fields.delays.Goals as goal

pub returns-in_err-high : goal.returns-in_err-high
returns-in_err-high c = let none = c.in_err-high.ensures in grind (arith, none)

pub returns-else-low-high : goal.returns-else-low-high
returns-else-low-high c = grind (arith, read_back)
