use Rattle.std.proofs.Common.{◌≡◌, ◌+◌, ◌*◌, length}
use Rattle.mintc_liberty_tokens.specs.Scans.{IsAhead}
use Rattle.mintc_liberty_tokens.specs.Reading.{group_rest}
use Rattle.mintc_liberty_tokens.proofs.statements.«+nest».Given as goal

abbrev pub decreases-call : goal.decreases-call
decreases-call l = 3 * l.room

abbrev pub decreases-statement : goal.decreases-statement
decreases-statement l = 3 * l.room + 1

abbrev pub decreases-statements : goal.decreases-statements
decreases-statements l = 3 * l.room + 2

-- what is left closes the group
abbrev pub invariant-statements-loop-room : goal.invariant-statements-loop-room
invariant-statements-loop-room l = record {
  same : group_rest l.initial.room l.initial.scanner.tokens ≡ group_rest l.room l.scanner.tokens;
  ahead : IsAhead l.initial.scanner l.scanner;
}

abbrev pub decreases-statements-loop-room : goal.decreases-statements-loop-room
decreases-statements-loop-room l = length l.scanner.tokens
