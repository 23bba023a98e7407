use Rattle.std.proofs.Common.{◌<◌, ℕ}
use Rattle.mintc_ratio.specs.Climbing.{IsPlainAt}
use Rattle.mintc_ratio.proofs.rest.plain_link.Given as goal

-- no link so far is such a one
abbrev pub invariant-loop-number : goal.invariant-loop-number
invariant-loop-number l = (k : ℕ) → k < l.number → IsPlainAt l.links l.from l.to l.cycles k → ⊥
