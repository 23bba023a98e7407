use Rattle.std.proofs.Common.{ℕ, ℤ, List, subst, sym}
use Rattle.std.specs.Prelude.{All}
use Rattle.std.proofs.lemmas.Result.{IfOk-weaker}
use Rattle.mintc_corners.specs.declared.certificate.CornerCertificate.{CornerCertificate}
use Rattle.mintc_corners.specs.declared.members.CornerMember.{CornerMember}
use Rattle.mintc_corners.specs.CornerOptimum.{IsOptimumOf}
use Rattle.mintcx_joint.specs.Shown.{IsShown}
use Rattle.mintcx_joint.proofs.SharedShownLaws.{shown_of_never, told_of_least}
use Rattle.mintcx_json.specs.Corners.{IsCornersObject, IsLeastObject, IsNeverObject}
use Rattle.mintcx_json.proofs.corners.corners_json.Goals as goal

pub least_json-requires-clause-shown : goal.least_json-requires-clause-shown
least_json-requires-clause-shown c =
    let ts = c.args.corners.now.systems.now in
    let told = told_of_least ts c.in-Least.schedule c.in-Least.departures c.in-Least.chain c.requires.alike (subst (IsOptimumOf ts) c.in-Least.is c.requires.optimum) in
    subst (All (IsShown ts)) (sym c.items-in-Least.ensures) told.shown

pub never_json-requires-clause-shown : goal.never_json-requires-clause-shown
never_json-requires-clause-shown c =
    let ts = c.args.corners.now.systems.now in
    subst (All (IsShown ts)) (sym c.items-in-Never.ensures) (shown_of_never ts c.in-Never.chain c.requires.alike (subst (IsOptimumOf ts) c.in-Never.is c.requires.optimum))

pub returns-in-Least : goal.returns-in-Least
returns-in-Least c =
    let ts = c.args.corners.now.systems.now in
    let names = c.args.corners.now.names.now in
    let alone = c.args.corners.now.alone.now in
    let s = c.in-Least.schedule in
    let subject = c.args.view.now.subject in
    IfOk-weaker c.least_json.result _ _
    (λ text e. subst (λ (x : CornerCertificate). IsCornersObject ts names alone x subject text) (sym c.in-Least.is)
    (subst (λ (ds : List (List ℤ)). IsLeastObject ts names alone s ds c.in-Least.chain subject text) c.items.ensures
    (subst (λ (ms : List CornerMember). IsLeastObject ts names alone s c.items.result.now ms subject text) c.items-in-Least.ensures
    (subst (λ (x : List ℕ). IsLeastObject ts names alone s c.items.result.now c.items-in-Least.result.now x text) c.bytes-subject.ensures e))))
    c.least_json.ensures

pub returns-in-Never : goal.returns-in-Never
returns-in-Never c =
    let ts = c.args.corners.now.systems.now in
    let names = c.args.corners.now.names.now in
    let alone = c.args.corners.now.alone.now in
    let subject = c.args.view.now.subject in
    IfOk-weaker c.never_json.result _ _
    (λ text e. subst (λ (x : CornerCertificate). IsCornersObject ts names alone x subject text) (sym c.in-Never.is)
    (subst (λ (ms : List CornerMember). IsNeverObject ts names alone ms subject text) c.items-in-Never.ensures
    (subst (λ (x : List ℕ). IsNeverObject ts names alone c.items-in-Never.result.now x text) c.bytes-subject.ensures e)))
    c.never_json.ensures
