use Rattle.std.proofs.Common.{◌≢◌, ◌<◌, ℕ}
use Rattle.mintcx_refusals.specs.Files.{role_at}
use Rattle.mintcx_refusals.proofs.files.first_of.Given as goal

-- no role so far is the one that is looked for
abbrev pub invariant-loop-at : goal.invariant-loop-at
invariant-loop-at l = (k : ℕ) → k < l.at → role_at l.roles k ≢ l.role
