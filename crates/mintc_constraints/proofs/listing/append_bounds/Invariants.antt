use Rattle.std.proofs.Common.{◌≡◌, ◌++◌, take, map}
use Rattle.std.specs.List.{enumerate_from}
use Rattle.mintc_timing.specs.Links.{bound_link}
use Rattle.mintc_constraints.proofs.listing.append_bounds.Given as goal

-- the links of the bounds so far are there
abbrev pub invariant-loop-number : goal.invariant-loop-number
invariant-loop-number l = l.items.items ≡ l.fn.items.items ++ map (λ b. bound_link b.0 b.1) (enumerate_from 0 (take l.number l.system.flat.bounds))
