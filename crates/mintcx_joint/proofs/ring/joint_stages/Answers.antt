use Rattle.std.proofs.Common.{◌∷◌, [], ◌++◌, map, take, ap, ◌∙◌, sym, subst}
use Rattle.std.specs.Prelude.{All}
use Rattle.std.proofs.lemmas.List.{map_more}
use Rattle.std.proofs.lemmas.List.Elements.{All-push}
use Rattle.mintc_corners.specs.declared.members.CornerMember.{CornerMember}
use Rattle.mintcx_chain.specs.declared.stages.Stage.{Stage}
use Rattle.std.proofs.Common.{List}
use Rattle.mintcx_chain.specs.Names.{IsShort}
use Rattle.mintcx_joint.specs.Shown.{joint_stage}
use Rattle.mintcx_joint.proofs.ring.joint_stages.Goals as goal

pub loop-member-preserved : goal.loop-member-preserved
loop-member-preserved c =
    let ts = c.args.systems.now in
    let members = c.args.members.now in
    let i = c.loop-member.member-index in
    let inv = c.loop-member.invariant in
    let old = c.loop-member.stages.items in
    let member = c.member-item.result in
    let this = c.in_ok-joint_stage.field-0 in
    let new = c.in_ok-push.ensures.items in
    record {
      value = rw (map_more (joint_stage ts) members i member c.loop-member-test.true)
          (new ∙ ap (λ (v : List Stage). v ++ this ∷ []) inv.value
          ∙ ap (λ (v : Stage). map (joint_stage ts) (take i members) ++ v ∷ []) c.in_ok-joint_stage.ensures.value
          ∙ ap (λ (m : CornerMember). map (joint_stage ts) (take i members) ++ joint_stage ts m ∷ []) c.member-item.is);
      short = subst (All IsShort) (sym new) (All-push IsShort old this inv.short c.in_ok-joint_stage.ensures.short);
    }
