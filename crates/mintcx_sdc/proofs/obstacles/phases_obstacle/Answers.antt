use Rattle.std.proofs.Common.{length, sym}
use Rattle.mintcx_sdc.specs.Obstacles.{phase_obstacle}
use Rattle.mintcx_sdc.proofs.FirstLaws.{first_found, first_none, first_passed}
use Rattle.mintcx_sdc.proofs.obstacles.phases_obstacle.Goals as goal

pub loop-at-preserved : goal.loop-at-preserved
loop-at-preserved c =
    let phases = c.args.phases.now in
    first_passed (phase_obstacle phases c.args.schedule.now) (length phases) c.loop-at.at c.loop-at-test.true (sym c.in-None.ensures) c.loop-at.invariant

pub returns-in-Some : goal.returns-in-Some
returns-in-Some c =
    let phases = c.args.phases.now in
    sym (first_found (phase_obstacle phases c.args.schedule.now) (length phases) c.loop-at.at c.in-Some.obstacle c.loop-at-test.true (sym c.in-Some.ensures) c.loop-at.invariant)

pub returns : goal.returns
returns c =
    let phases = c.args.phases.now in
    sym (first_none (phase_obstacle phases c.args.schedule.now) (length phases) c.loop-at.at c.loop-at-test.false c.loop-at.invariant)
