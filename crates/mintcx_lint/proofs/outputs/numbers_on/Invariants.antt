use Rattle.std.proofs.Common.{◌≡◌, ◌+◌, ◌++◌, drop}
use Rattle.mintcx_lint.specs.Outputs.{numbers_on}
use Rattle.mintcx_lint.proofs.outputs.numbers_on.Given as goal

-- those so far, and those of the ports that are left
abbrev pub invariant-loop-at : goal.invariant-loop-at
invariant-loop-at l = l.numbers.items ++ numbers_on l.phase (l.at + 1) (drop l.at l.outputs) ≡ numbers_on l.phase 1 l.outputs
