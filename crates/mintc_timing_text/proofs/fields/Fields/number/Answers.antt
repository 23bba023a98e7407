use Rattle.std.proofs.Common.{arith}
use Rattle.mintc_timing_text.proofs.SharedFieldsLaws.{read_back}
use Rattle.mintc_timing_text.proofs.fields.Fields.number.Goals as goal

pub returns-else-least-value : goal.returns-else-least-value
returns-else-least-value c = grind (arith, read_back)
