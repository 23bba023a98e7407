use Rattle.std.proofs.Common.{◌≡◌, ◌∙◌, ◌≤◌, List, [], arith, subst}
use Rattle.std.proofs.lemmas.Result.{IfOk-weaker}
use Rattle.mintc_timing.specs.Design.{Design}
use Rattle.mintcx_chain.specs.declared.stages.Stage.{Stage}
use Rattle.mintcx_chain.specs.Turning.{IsBeginning}
use Rattle.mintcx_joint.specs.Shown.{BeginsAt, joint_departures, joint_stages}
use Rattle.mintcx_joint.proofs.SharedShownLaws.{first_design}
use Rattle.mintcx_json.proofs.DepthLaws as depths
use Rattle.mintcx_json.proofs.TextLaws.{whole_text}
use Rattle.mintcx_json.specs.Corners.{never_value}
use Rattle.mintcx_json.proofs.corners.never_json.Goals as goal

pub returns : goal.returns
returns c =
    let ts = c.args.corners.now.systems.now in
    let names = c.args.corners.now.names.now in
    let alone = c.args.corners.now.alone.now in
    let members = c.args.members.now in
    let subject = c.args.subject.now in
    let n = c.beginning.result in
    let stages = joint_stages ts members in
    let are : c.items-2.result.now ≡ stages = c.items-2.ensures ∙ c.in_ok-stages.ensures.value in
    let first = first_design ts c.index-corners-0.result c.flat.result.now c.requires.some c.flat.ensures.value in
    let begins : BeginsAt ts [] members n =
    subst (λ (x : Design). IsBeginning x (joint_departures []) stages n) first
    (subst (λ (ks : List Stage). IsBeginning c.flat.result.now [] ks n) are c.beginning.ensures) in
    let shallow = depths.never_joint ts names alone members n subject in
    IfOk-weaker c.into_text.result _ _ (λ text e. (n, begins, e))
    (whole_text c.into_text.result (never_value ts names alone members n subject) c.new-sheet.result c.put_never.new.sheet c.new-sheet.ensures c.in_ok-put_never.ensures
    (omega (arith, shallow)) c.into_text.ensures.reads_back c.into_text.ensures.text)
