use Rattle.mintc_command.proofs.SharedCalls.{MakesAtMost-one}
use Rattle.mintcx_run.proofs.program.make.Goals as goal

pub returns-in-Ok-clause-makes : goal.returns-in-Ok-clause-makes
returns-in-Ok-clause-makes g c = MakesAtMost-one _ _ c.make.ensures.counted

pub returns-in-Err-clause-makes : goal.returns-in-Err-clause-makes
returns-in-Err-clause-makes g c = MakesAtMost-one _ _ c.make.ensures.counted
