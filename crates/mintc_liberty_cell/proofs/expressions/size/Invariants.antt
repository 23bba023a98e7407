use Rattle.std.proofs.Common.{◌≡◌, ◌+◌, length}
use Rattle.mintc_liberty_cell.specs.Expressions.{stripped}
use Rattle.mintc_liberty_cell.specs.Passing.{value_bytes}
use Rattle.mintc_liberty_cell.proofs.expressions.size.Given as goal

abbrev pub invariant-loop-size : goal.invariant-loop-size
invariant-loop-size l = length (stripped (value_bytes l.value)) ≡ l.size + length (stripped l.bytes)

abbrev pub decreases-loop-size : goal.decreases-loop-size
decreases-loop-size l = length (stripped l.bytes)
