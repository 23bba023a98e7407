use Rattle.std.proofs.Common.{arith}
use Rattle.mintc_command.proofs.SharedCalls.{MakesAtMost-fewer, MakesAtMost-none}
use Rattle.mintcx_run.proofs.reading.read_file.Goals as goal

pub returns-in_default-clause-reads : goal.returns-in_default-clause-reads
returns-in_default-clause-reads g c =
    MakesAtMost-fewer 0 1 (g.S.Shelf.calls c.args.shelf.now) (g.S.Shelf.calls c.args.shelf.now) (omega arith) (MakesAtMost-none (g.S.Shelf.calls c.args.shelf.now))
