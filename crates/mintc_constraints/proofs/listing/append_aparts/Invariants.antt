use Rattle.std.proofs.Common.{◌≡◌, ◌++◌, map}
use Rattle.std.specs.List.{filter, flat_map, range_with_len}
use Rattle.mintc_timing.specs.Clocking.{feeds_of}
use Rattle.mintc_timing.specs.Links.{apart_link}
use Rattle.mintc_timing.specs.Violations.{phases_of}
use Rattle.mintc_constraints.proofs.listing.append_aparts.Given as goal

-- the links of the phases so far are there
abbrev pub invariant-loop-index : goal.invariant-loop-index
invariant-loop-index l = l.items.items ≡ l.fn.items.items ++ flat_map (λ i. map (apart_link i) (filter (feeds_of l.system i) (phases_of l.system.flat))) (range_with_len 1 l.index)
