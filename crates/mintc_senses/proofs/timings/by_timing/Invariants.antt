use Rattle.std.proofs.Common.{◌≡◌, length}
use Rattle.mintc_liberty_tokens.specs.Statements.{front}
use Rattle.mintc_liberty_cell.specs.Meaning.{groups}
use Rattle.mintc_senses_expressions.specs.Transitions.{together}
use Rattle.mintc_senses.specs.Senses.{by_timing}
use Rattle.mintc_senses.proofs.timings.by_timing.Given as goal

-- what the groups say that are passed, and what those that are left say
abbrev pub invariant-loop-group : goal.invariant-loop-group
invariant-loop-group l = by_timing l.input (groups (front l.room l.inside).statements) ≡ together l.found (by_timing l.input (groups (front l.room l.reader).statements))

abbrev pub decreases-loop-group : goal.decreases-loop-group
decreases-loop-group l = length l.reader
