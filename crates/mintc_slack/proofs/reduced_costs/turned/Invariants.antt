use Rattle.std.specs.List.{All}
use Rattle.mintc_slack.specs.Gaps.{IsInside}
use Rattle.mintc_slack.proofs.reduced_costs.turned.Given as goal

-- the gaps so far are inside
abbrev pub invariant-loop-gap : goal.invariant-loop-gap
invariant-loop-gap l = All (IsInside l.nodes) l.turned.items
