use Rattle.std.proofs.Common.{◌+◌, take}
use Rattle.mintc_text.specs.declared.limits.TheConstants.{MOST_BYTES}
use Rattle.mintc_command.proofs.SharedReadingLaws.{IsReading}
use Rattle.mintcx_run.proofs.reading.read_files.Given as goal

abbrev pub invariant-loop-name : goal.invariant-loop-name
invariant-loop-name g l =
    IsReading (g.S.Shelf.files l.initial.shelf) (g.S.Shelf.files l.shelf) (g.S.Shelf.faults l.initial.shelf) (g.S.Shelf.faults l.shelf)
    (g.S.Shelf.calls l.initial.shelf) (g.S.Shelf.calls l.shelf) (MOST_BYTES + 1) (take l.name-index l.names) l.files.items
