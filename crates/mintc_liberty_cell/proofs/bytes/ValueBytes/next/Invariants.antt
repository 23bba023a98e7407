use Rattle.std.proofs.Common.{◌≡◌, length}
use Rattle.mintc_liberty_cell.specs.Expressions.{stripped}
use Rattle.mintc_liberty_cell.proofs.bytes.ValueBytes.next.Given as goal

-- only white space is passed
abbrev pub invariant-loop-byte : goal.invariant-loop-byte
invariant-loop-byte l = stripped l.initial.self ≡ stripped l.self

abbrev pub decreases-loop-byte : goal.decreases-loop-byte
decreases-loop-byte l = length l.self
