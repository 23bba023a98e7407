use Rattle.std.proofs.Common.{ℕ, ◌<◌}
use Rattle.mintcx_verdicts.specs.Chains.{LeadsOn}
use Rattle.mintcx_verdicts.proofs.ring.first_break.Given as goal

-- the members so far lead on
abbrev pub invariant-loop-place : goal.invariant-loop-place
invariant-loop-place l = (m : ℕ) → m < l.place → LeadsOn l.flat l.members m
