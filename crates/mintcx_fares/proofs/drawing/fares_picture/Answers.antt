use Rattle.std.proofs.Common.{ℤ, List, subst}
use Rattle.std.specs.Result.{IfOk}
use Rattle.mintc_timing.specs.declared.clocking.Schedule.{Schedule}
use Rattle.mintc_timing.specs.Design.{Timing}
use Rattle.mintcx_fares.specs.Drawings.{IsFaresDrawn}
use Rattle.mintcx_fares.proofs.drawing.fares_picture.Goals as goal

pub returns-clause-fares : goal.returns-clause-fares
returns-clause-fares c =
    let causes = c.in_ok-causes.causes in
    let judged = c.args.judged.now in
    let same = c.in_ok-causes.ensures in
    let drawn = c.causes_picture.result in
    subst (λ (v : Timing). IfOk drawn (IsFaresDrawn v judged.schedule.now judged.late.now judged.early.now)) same.system
    (subst (λ (v : Schedule). IfOk drawn (IsFaresDrawn causes.told.system.now v judged.late.now judged.early.now)) same.schedule
    (subst (λ (v : List ℤ). IfOk drawn (IsFaresDrawn causes.told.system.now causes.told.schedule.now v judged.early.now)) same.late
    (subst (λ (v : List ℤ). IfOk drawn (IsFaresDrawn causes.told.system.now causes.told.schedule.now causes.late.now v)) same.early c.causes_picture.ensures)))
