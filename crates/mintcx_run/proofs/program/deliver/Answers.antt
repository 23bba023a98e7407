use Rattle.std.proofs.Common.{arith}
use Rattle.mintc_command.proofs.SharedCalls.{MakesAtMost-fewer, MakesAtMost-sum}
use Rattle.mintcx_run.proofs.DeliveryLaws.{delivered}
use Rattle.mintcx_run.proofs.program.deliver.Goals as goal

pub returns-in-Ok-clause-delivered : goal.returns-in-Ok-clause-delivered
returns-in-Ok-clause-delivered g c =
    delivered c.args.reply.now c.put_text.result _ _ _ _ _ _ _ c.items.result.now c.in-Ok.ensures.made c.in-Ok.ensures.still c.items.ensures c.warn.ensures.told c.put_text.ensures.at

pub returns-in-Ok-clause-tells : goal.returns-in-Ok-clause-tells
returns-in-Ok-clause-tells g c = MakesAtMost-sum 1 1 _ _ _ (rw c.in-Ok.ensures.untold at c.warn.ensures.tells) c.put_text.ensures.tells

pub returns-in-Err-clause-tells : goal.returns-in-Err-clause-tells
returns-in-Err-clause-tells g c = MakesAtMost-fewer 1 2 _ _ (omega arith) c.make_beside.ensures.tells
