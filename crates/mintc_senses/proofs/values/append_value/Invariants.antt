use Rattle.std.proofs.Common.{◌≡◌, ◌++◌, length}
use Rattle.mintc_liberty_cell.specs.Passing.{value_bytes}
use Rattle.mintc_senses.proofs.values.append_value.Given as goal

-- the pieces that are passed are there
abbrev pub invariant-loop-piece : goal.invariant-loop-piece
invariant-loop-piece l = l.bytes.items ++ value_bytes l.reader ≡ l.initial.bytes.items ++ value_bytes l.value

abbrev pub decreases-loop-piece : goal.decreases-loop-piece
decreases-loop-piece l = length l.reader
