use Rattle.std.proofs.Common.{◌≡◌, ◌++◌}
use Rattle.mintc_sample.specs.Samples.{entries_text}
use Rattle.mintc_sample.proofs.weights.put_cells.Given as goal

-- the lines of the places so far
abbrev pub invariant-loop-latch : goal.invariant-loop-latch
invariant-loop-latch l = l.lines ≡ l.initial.lines ++ entries_text l.number l.latch
