use Rattle.std.proofs.Common.{◌≡◌, map, take}
use Rattle.mintc_slack.specs.Gaps.{gap_of}
use Rattle.mintc_slack.proofs.reduced_costs.gaps.Given as goal

-- the gaps of the links below this one
abbrev pub invariant-loop-link : goal.invariant-loop-link
invariant-loop-link l = l.gaps.items ≡ take l.link-index (map (gap_of l.at l.potentials) l.list.links)
