use Rattle.mintc_command.proofs.SharedCalls.{MakesAtMost-sum}
use Rattle.mintcx_run.proofs.refusals.refused.Goals as goal

pub returns-clause-reads : goal.returns-clause-reads
returns-clause-reads g c = MakesAtMost-sum 1 1 _ _ _ c.refused_file-file.ensures.reads c.beside_file-beside.ensures.reads
