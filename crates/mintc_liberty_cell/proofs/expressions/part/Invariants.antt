use Rattle.std.proofs.Common.{◌≡◌, ◌-◌, ◌++◌, take, drop}
use Rattle.mintc_liberty_cell.specs.Expressions.{stripped}
use Rattle.mintc_liberty_cell.specs.Passing.{value_bytes}
use Rattle.mintc_liberty_cell.proofs.expressions.part.Given as goal

-- so many are still to be added
abbrev pub invariant-loop : goal.invariant-loop
invariant-loop l = l.part.items ++ take (l.size - l.counter) (stripped l.bytes) ≡ take l.size (drop l.from (stripped (value_bytes l.value)))
