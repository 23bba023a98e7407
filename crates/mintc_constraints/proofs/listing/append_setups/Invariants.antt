use Rattle.std.proofs.Common.{◌≡◌, ◌++◌, map}
use Rattle.std.specs.List.{range_with_len}
use Rattle.mintc_timing.specs.Links.{setup_link}
use Rattle.mintc_constraints.proofs.listing.append_setups.Given as goal

-- the links of the elements so far are there
abbrev pub invariant-loop-number : goal.invariant-loop-number
invariant-loop-number l = l.items.items ≡ l.fn.items.items ++ map (setup_link l.system.flat) (range_with_len 0 l.number)
