use Rattle.std.proofs.lemmas.Result.{err_from_is_err_and}
use Rattle.mintc_command.proofs.SharedReadingLaws.{IsReading-more}
use Rattle.mintcx_run.proofs.ReadingLaws.{calls_so_far, more-names}
use Rattle.mintcx_run.proofs.ReplyLaws.{unread_one}
use Rattle.mintcx_run.proofs.reading.read_files.Goals as goal

pub returns-in_err-bytes-clause-unread : goal.returns-in_err-bytes-clause-unread
returns-in_err-bytes-clause-unread g c =
    let p = err_from_is_err_and c.from_residual.result c.from_residual.ensures.1 in
    rw (p.1, p.2) (unread_one c.args.names.now c.loop-name.name-index c.name-item.result c.in_err-bytes.field-0.0 c.loop-name-test.true c.name-item.is c.in_err-bytes.ensures.unread)

pub loop-name-preserved : goal.loop-name-preserved
loop-name-preserved g c =
    rw (more-names c.args.names.now c.loop-name.name-index c.name-item.result c.loop-name-test.true c.name-item.is, c.in-Ok.ensures.items)
    (IsReading-more _ _ _ _ _ _ _ _ _ _ _ _ _ _ c.loop-name.invariant c.in_ok-bytes.ensures.front c.read_file.ensures.same c.read_file.ensures.later c.read_file.ensures.reads)

pub returns-in_err-bytes-clause-reads : goal.returns-in_err-bytes-clause-reads
returns-in_err-bytes-clause-reads g c =
    calls_so_far c.args.names.now c.loop-name.name-index (g.S.Shelf.calls c.args.shelf.now) (g.S.Shelf.calls c.loop-name.shelf) (g.S.Shelf.calls c.read_file.new.shelf)
    c.loop-name-test.true c.loop-name.invariant.calls c.read_file.ensures.reads
