use Rattle.std.proofs.Common.{subst, sym}
use Rattle.std.specs.Prelude.{All}
use Rattle.mintc_corners.specs.CornerOptimum.{IsOptimumOf}
use Rattle.mintcx_joint.specs.Shown.{IsShown}
use Rattle.mintcx_joint.proofs.SharedShownLaws.{shown_of_never, told_of_least}
use Rattle.mintcx_csv.proofs.corners.corners_csv.Goals as goal

pub joint_csv-requires-clause-shown : goal.joint_csv-requires-clause-shown
joint_csv-requires-clause-shown c =
    let ts = c.args.systems.now in
    let told = told_of_least ts c.in-Least.schedule c.in-Least.departures c.in-Least.chain c.requires.alike (subst (IsOptimumOf ts) c.in-Least.is c.requires.optimum) in
    subst (All (IsShown ts)) (sym c.items-in-Least.ensures) told.shown

pub joint_csv-requires-in-Never-clause-shown : goal.joint_csv-requires-in-Never-clause-shown
joint_csv-requires-in-Never-clause-shown c =
    let ts = c.args.systems.now in
    subst (All (IsShown ts)) (sym c.items-in-Never.ensures) (shown_of_never ts c.in-Never.chain c.requires.alike (subst (IsOptimumOf ts) c.in-Never.is c.requires.optimum))
