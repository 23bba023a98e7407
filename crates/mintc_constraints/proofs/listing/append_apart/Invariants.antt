use Rattle.std.proofs.Common.{◌≡◌, ◌++◌, map}
use Rattle.std.specs.List.{filter, range_with_len}
use Rattle.mintc_timing.specs.Clocking.{feeds_of}
use Rattle.mintc_timing.specs.Links.{apart_link}
use Rattle.mintc_constraints.proofs.listing.append_apart.Given as goal

-- the links to the phases so far are there
abbrev pub invariant-loop-index : goal.invariant-loop-index
invariant-loop-index l = l.items.items ≡ l.fn.items.items ++ map (apart_link l.i) (filter (feeds_of l.system l.i) (range_with_len 1 l.index))
