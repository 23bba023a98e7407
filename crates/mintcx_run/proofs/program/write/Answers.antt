use Rattle.mintc_command.proofs.SharedCalls.{MakesAtMost-one}
use Rattle.mintcx_run.proofs.program.write.Goals as goal

pub returns-in-Ok-clause-writes : goal.returns-in-Ok-clause-writes
returns-in-Ok-clause-writes g c = MakesAtMost-one _ _ c.write.ensures.counted

pub returns-in-Err-clause-writes : goal.returns-in-Err-clause-writes
returns-in-Err-clause-writes g c = MakesAtMost-one _ _ c.write.ensures.counted
