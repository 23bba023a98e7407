use Rattle.std.proofs.Common.{IfOk, List, ℤ, sym, subst}
use Rattle.std.specs.Prelude.{All}
use Rattle.mintc_corners.specs.declared.certificate.CornerCertificate.{CornerCertificate}
use Rattle.mintc_corners.specs.declared.members.CornerMember.{CornerMember}
use Rattle.mintc_corners.specs.CornerOptimum.{IsCornerChainInRange, IsOptimumOf}
use Rattle.mintcx_joint.specs.CornersText.{IsCornersText, IsLeastOf, IsNeverOf}
use Rattle.mintcx_joint.specs.Shown.{IsShown}
use Rattle.mintcx_joint.proofs.SharedShownLaws.{chain_of_never, shown_of_never, told_of_least}
use Rattle.mintcx_joint.proofs.text.corners_text.Goals as goal

pub least_of-requires-clause-in_range : goal.least_of-requires-clause-in_range
least_of-requires-clause-in_range c =
    let ts = c.args.corners.now.systems.now in
    (told_of_least ts c.in-Least.schedule c.in-Least.departures c.in-Least.chain c.requires.alike (subst (IsOptimumOf ts) c.in-Least.is c.requires.optimum)).in_range

pub least_of-requires-clause-phases : goal.least_of-requires-clause-phases
least_of-requires-clause-phases c =
    let ts = c.args.corners.now.systems.now in
    (told_of_least ts c.in-Least.schedule c.in-Least.departures c.in-Least.chain c.requires.alike (subst (IsOptimumOf ts) c.in-Least.is c.requires.optimum)).phases

pub least_of-requires-clause-chain : goal.least_of-requires-clause-chain
least_of-requires-clause-chain c =
    let ts = c.args.corners.now.systems.now in
    let told = told_of_least ts c.in-Least.schedule c.in-Least.departures c.in-Least.chain c.requires.alike (subst (IsOptimumOf ts) c.in-Least.is c.requires.optimum) in
    subst IsCornerChainInRange (sym c.items-in-Least.ensures) told.chain_in

pub least_of-requires-clause-shown : goal.least_of-requires-clause-shown
least_of-requires-clause-shown c =
    let ts = c.args.corners.now.systems.now in
    let told = told_of_least ts c.in-Least.schedule c.in-Least.departures c.in-Least.chain c.requires.alike (subst (IsOptimumOf ts) c.in-Least.is c.requires.optimum) in
    subst (All (IsShown ts)) (sym c.items-in-Least.ensures) told.shown

pub never_of-requires-clause-chain : goal.never_of-requires-clause-chain
never_of-requires-clause-chain c =
    let ts = c.args.corners.now.systems.now in
    subst IsCornerChainInRange (sym c.items-in-Never.ensures) (chain_of_never ts c.in-Never.chain (subst (IsOptimumOf ts) c.in-Never.is c.requires.optimum))

pub never_of-requires-clause-shown : goal.never_of-requires-clause-shown
never_of-requires-clause-shown c =
    let ts = c.args.corners.now.systems.now in
    subst (All (IsShown ts)) (sym c.items-in-Never.ensures) (shown_of_never ts c.in-Never.chain c.requires.alike (subst (IsOptimumOf ts) c.in-Never.is c.requires.optimum))

pub returns-in-Least : goal.returns-in-Least
returns-in-Least c =
    let ts = c.args.corners.now.systems.now in
    let names = c.args.corners.now.names.now in
    let alone = c.args.corners.now.alone.now in
    let view = c.args.view.now in
    let s = c.in-Least.schedule in
    let result = c.least_of.result in
    subst (λ (x : CornerCertificate). IfOk result (IsCornersText ts names alone x view)) (sym c.in-Least.is)
    (subst (λ (ds : List (List ℤ)). IfOk result (IsLeastOf ts names alone s ds c.in-Least.chain view)) c.items.ensures
    (subst (λ (ms : List CornerMember). IfOk result (IsLeastOf ts names alone s c.items.result.now ms view)) c.items-in-Least.ensures c.least_of.ensures))

pub returns-in-Never : goal.returns-in-Never
returns-in-Never c =
    let ts = c.args.corners.now.systems.now in
    let names = c.args.corners.now.names.now in
    let alone = c.args.corners.now.alone.now in
    let view = c.args.view.now in
    let result = c.never_of.result in
    subst (λ (x : CornerCertificate). IfOk result (IsCornersText ts names alone x view)) (sym c.in-Never.is)
    (subst (λ (ms : List CornerMember). IfOk result (IsNeverOf ts names alone ms view)) c.items-in-Never.ensures c.never_of.ensures)
