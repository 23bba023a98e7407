use Rattle.std.proofs.Common.{◌≡◌, ◌++◌, take, map}
use Rattle.mintc_timing.specs.Links.{reach_link}
use Rattle.mintc_constraints.proofs.listing.append_reaches.Given as goal

-- the links of the pairs so far are there
abbrev pub invariant-loop-number : goal.invariant-loop-number
invariant-loop-number l = l.items.items ≡ l.fn.items.items ++ map (λ p. reach_link l.system.flat p.from p.to p.max) (take l.number l.system.pairs)
