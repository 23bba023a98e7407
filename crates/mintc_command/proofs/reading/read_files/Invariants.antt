use Rattle.std.proofs.Common.{◌+◌, take}
use Rattle.mintc_command.specs.Answers.{HoldsAll}
use Rattle.mintc_command_answers.specs.Commands.{bytes_of}
use Rattle.mintc_command.proofs.SharedReadingLaws.{IsReading}
use Rattle.mintc_command.proofs.reading.read_files.Given as goal

abbrev pub invariant-loop-name : goal.invariant-loop-name
invariant-loop-name g l =
    IsReading (g.S.Shelf.files l.initial.shelf) (g.S.Shelf.files l.shelf) (g.S.Shelf.faults l.initial.shelf) (g.S.Shelf.faults l.shelf)
    (g.S.Shelf.calls l.initial.shelf) (g.S.Shelf.calls l.shelf) (l.limits.bytes + 1) (bytes_of (take l.name-index l.names)) l.files.items
    × (g.S.Shelf.is_sound l.initial.shelf → HoldsAll (g.S.Shelf.files l.initial.shelf) (bytes_of l.names) → g.S.Shelf.is_sound l.shelf)
