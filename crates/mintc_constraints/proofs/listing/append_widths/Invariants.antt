use Rattle.std.proofs.Common.{◌≡◌, ◌++◌, map}
use Rattle.std.specs.List.{range_with_len}
use Rattle.mintc_timing.specs.Links.{width_link}
use Rattle.mintc_constraints.proofs.listing.append_widths.Given as goal

-- the links of the phases so far are there
abbrev pub invariant-loop-index : goal.invariant-loop-index
invariant-loop-index l = l.items.items ≡ l.fn.items.items ++ map (width_link l.system.flat) (range_with_len 1 l.index)
