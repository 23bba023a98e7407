use Rattle.mintc_command.proofs.SharedCalls.{MakesAtMost-sum}
use Rattle.mintcx_run.proofs.RefusalLaws.{corner_told}
use Rattle.mintcx_run.proofs.refusals.refused_corner.Goals as goal

pub returns-clause-reads : goal.returns-clause-reads
returns-clause-reads g c = MakesAtMost-sum 1 1 _ _ _ c.refused_file-file.ensures.reads c.beside_file-beside.ensures.reads

pub returns-clause-reply : goal.returns-clause-reply
returns-clause-reply g c =
    corner_told c.said_of_corner.result _ c.args.order.now c.args.corner c.args.own.now c.refused_file-file.result c.reply_of.result
    (rw c.teller.ensures at c.refused_file-file.ensures.file) (rw c.items.ensures at c.said_of_corner.ensures) c.reply_of.ensures
