use Rattle.std.proofs.Common.{◌≡◌, ◌++◌, length}
use Rattle.mintc_liberty_cell.specs.Passing.{value_bytes}
use Rattle.mintc_liberty_cell.proofs.bytes.ValueBytes.byte.Given as goal

-- nothing is passed
abbrev pub invariant-loop-self : goal.invariant-loop-self
invariant-loop-self l = l.self-inside.piece.now ++ value_bytes l.self-inside.behind ≡ l.fn.self

abbrev pub decreases-loop-self : goal.decreases-loop-self
decreases-loop-self l = length l.self-inside.behind
