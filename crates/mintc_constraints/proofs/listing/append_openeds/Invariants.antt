use Rattle.std.proofs.Common.{◌≡◌, ◌++◌, map, not}
use Rattle.std.specs.List.{filter, range_with_len}
use Rattle.mintc_timing.specs.Design.{element_at}
use Rattle.mintc_timing.specs.Links.{opened_link}
use Rattle.mintc_constraints.proofs.listing.append_openeds.Given as goal

-- the links of the elements so far are there
abbrev pub invariant-loop-number : goal.invariant-loop-number
invariant-loop-number l = l.items.items ≡ l.fn.items.items ++ map (opened_link l.system.flat) (filter (λ k. not (element_at l.system.flat k).flop) (range_with_len 0 l.number))
