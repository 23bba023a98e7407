use Rattle.std.proofs.Common.{◌≡◌, map, take, slice_index_or}
use Rattle.mintcx_lint_data.proofs.back.twice_as_far.Given as goal

abbrev pub invariant-loop-bit : goal.invariant-loop-bit
invariant-loop-bit l = l.found.items ≡ map (λ b. slice_index_or l.steps b 0) (take l.bit-index l.steps)
