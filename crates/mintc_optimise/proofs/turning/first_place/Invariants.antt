use Rattle.std.proofs.Common.{◌<◌, ℕ}
use Rattle.mintc_timing.specs.Links.{link_at}
use Rattle.mintc_ratio.specs.Chains.{links_at}
use Rattle.mintc_optimise.specs.Beginning.{IsAbsent}
use Rattle.mintc_optimise.proofs.turning.first_place.Given as goal

-- no link so far is in the chain
abbrev pub invariant-loop-link : goal.invariant-loop-link
invariant-loop-link l = (e : ℕ) → e < l.link-index → IsAbsent (links_at l.links l.chain) (link_at l.links e)
