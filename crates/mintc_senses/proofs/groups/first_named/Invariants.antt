use Rattle.std.proofs.Common.{◌≡◌, length}
use Rattle.mintc_liberty_tokens.specs.Statements.{front}
use Rattle.mintc_liberty_cell.specs.Meaning.{groups}
use Rattle.mintc_senses.specs.Senses.{first_named}
use Rattle.mintc_senses.proofs.groups.first_named.Given as goal

-- the groups that are passed have other names
abbrev pub invariant-loop-group : goal.invariant-loop-group
invariant-loop-group l = first_named l.name (groups (front l.room l.inside).statements) ≡ first_named l.name (groups (front l.room l.reader).statements)

abbrev pub decreases-loop-group : goal.decreases-loop-group
decreases-loop-group l = length l.reader
