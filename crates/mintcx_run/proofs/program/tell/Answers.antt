use Rattle.mintc_command.proofs.SharedCalls.{MakesAtMost-one}
use Rattle.mintcx_run.proofs.DeliveryLaws.{front_of_write}
use Rattle.mintcx_run.proofs.program.tell.Goals as goal

pub returns-clause-front : goal.returns-clause-front
returns-clause-front g c = front_of_write c.write-written.result _ _ c.args.text.now c.write-written.ensures.ok c.write-written.ensures.err

pub returns-clause-tells : goal.returns-clause-tells
returns-clause-tells g c = MakesAtMost-one _ _ c.write-written.ensures.counted
