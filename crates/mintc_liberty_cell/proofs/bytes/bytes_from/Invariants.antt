use Rattle.std.proofs.Common.{◌≡◌, ◌-◌, drop}
use Rattle.mintc_liberty_cell.specs.Expressions.{stripped}
use Rattle.mintc_liberty_cell.specs.Passing.{value_bytes}
use Rattle.mintc_liberty_cell.proofs.bytes.bytes_from.Given as goal

-- so many are still to be passed
abbrev pub invariant-loop : goal.invariant-loop
invariant-loop l = drop (l.from - l.counter) (stripped l.bytes) ≡ drop l.from (stripped (value_bytes l.value))
