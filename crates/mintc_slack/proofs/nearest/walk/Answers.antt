use Rattle.mintc_slack.proofs.GapLaws.{shorter-on}
use Rattle.mintc_slack.proofs.nearest.walk.Goals as goal
use Rattle.mintc_slack.proofs.nearest.walk.Goals.{then-unwrap_or-distance+in_ok-leave-2, else-unwrap_or-distance}

pub returns-in_err-leave-2 : goal.returns-in_err-leave-2
returns-in_err-leave-2 c = shorter-on c.args.hub c.args.rows.now.gaps.items _ _ _ c.loop-step.invariant (c.leave-then-unwrap_or-distance.ensures c.args.hub)

pub loop-step-preserved : goal.loop-step-preserved
loop-step-preserved c =
    elim c.if-unwrap_or-distance.branch [
      | then-unwrap_or-distance+in_ok-leave-2 w ↦ rw w.distances-is (shorter-on c.args.hub c.args.rows.now.gaps.items _ _ _ c.loop-step.invariant (w.leave-then-unwrap_or-distance.ensures c.args.hub))
      | else-unwrap_or-distance w ↦ rw w.distances-is c.loop-step.invariant
    ]
