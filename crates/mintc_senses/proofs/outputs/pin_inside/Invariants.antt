use Rattle.std.proofs.Common.{◌≡◌, length}
use Rattle.mintc_liberty_tokens.specs.Statements.{front}
use Rattle.mintc_liberty_cell.specs.Meaning.{groups}
use Rattle.mintc_senses.specs.Senses.{pin_inside}
use Rattle.mintc_senses.proofs.outputs.pin_inside.Given as goal

-- the groups that are passed are none of the pin's
abbrev pub invariant-loop-group : goal.invariant-loop-group
invariant-loop-group l = pin_inside (groups (front l.room l.inside).statements) l.pin ≡ pin_inside (groups (front l.room l.reader).statements) l.pin

abbrev pub decreases-loop-group : goal.decreases-loop-group
decreases-loop-group l = length l.reader
