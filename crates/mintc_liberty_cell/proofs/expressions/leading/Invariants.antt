use Rattle.std.proofs.Common.{◌≡◌, ◌+◌, length}
use Rattle.mintc_liberty_cell.specs.Expressions.{stripped}
use Rattle.mintc_liberty_cell.specs.Parentheses.{leading}
use Rattle.mintc_liberty_cell.specs.Passing.{value_bytes}
use Rattle.mintc_liberty_cell.proofs.expressions.leading.Given as goal

abbrev pub invariant-loop-byte : goal.invariant-loop-byte
invariant-loop-byte l = leading (stripped (value_bytes l.value)) ≡ l.count + leading (stripped l.bytes)

abbrev pub decreases-loop-byte : goal.decreases-loop-byte
decreases-loop-byte l = length (stripped l.bytes)
