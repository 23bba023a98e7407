use Rattle.mintc_slack.specs.Gaps.{AreShorter}
use Rattle.mintc_slack.proofs.nearest.walk.Given as goal

-- the distances so far
abbrev pub invariant-loop-step : goal.invariant-loop-step
invariant-loop-step l = AreShorter l.hub l.rows.gaps.items l.fn.distances.items l.distances.items
