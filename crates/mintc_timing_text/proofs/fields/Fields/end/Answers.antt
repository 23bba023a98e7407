use Rattle.std.proofs.Common.{arith}
use Rattle.mintc_timing_text.proofs.SharedFieldsLaws.{fields_some}
use Rattle.mintc_timing_text.proofs.fields.Fields.end.Goals as goal

pub returns-else-self : goal.returns-else-self
returns-else-self c = let some = fields_some c.self.inside.rest.now in grind arith
