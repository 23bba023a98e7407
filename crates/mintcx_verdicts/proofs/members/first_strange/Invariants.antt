use Rattle.std.proofs.Common.{ℕ, ◌<◌}
use Rattle.mintc_certificate.specs.Valid.{IsMember}
use Rattle.mintcx_verdicts.specs.Chains.{member_at}
use Rattle.mintcx_verdicts.proofs.members.first_strange.Given as goal

-- the members so far are the design's
abbrev pub invariant-loop-place : goal.invariant-loop-place
invariant-loop-place l = (m : ℕ) → m < l.place → IsMember l.system (member_at l.members m)
