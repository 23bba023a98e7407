use Rattle.std.proofs.Common.{◌≡◌, length, drop}
use Rattle.mintc_liberty_cell.specs.Expressions.{stripped}
use Rattle.mintc_liberty_cell.specs.Parentheses.{outer}
use Rattle.mintc_liberty_cell.specs.Passing.{value_bytes}
use Rattle.mintc_liberty_cell.proofs.expressions.outer.Given as goal

-- the pairs of what is left
abbrev pub invariant-loop-byte : goal.invariant-loop-byte
invariant-loop-byte l = outer l.from l.from (drop l.from (stripped (value_bytes l.value))) ≡ outer l.open l.pairs (stripped l.bytes)

abbrev pub decreases-loop-byte : goal.decreases-loop-byte
decreases-loop-byte l = length (stripped l.bytes)
