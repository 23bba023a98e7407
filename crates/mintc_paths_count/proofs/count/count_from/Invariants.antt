use Rattle.mintc_paths_count.proofs.Listing.{IsCountToEnd}
use Rattle.mintc_paths_count.proofs.count.count_from.Given as goal

-- the pairs before this listed element
abbrev pub invariant-loop-to : goal.invariant-loop-to
invariant-loop-to g l = IsCountToEnd g.design l.element l.listed l.to-index l.count
