use Rattle.std.proofs.Common.{◌≡◌, ◌∷◌, [], ◌++◌, List, map, take, ap, ◌∙◌, sym, subst}
use Rattle.std.specs.Prelude.{All}
use Rattle.std.proofs.lemmas.List.{map_more}
use Rattle.std.proofs.lemmas.List.Elements.{All-push}
use Rattle.mintc_safe.specs.declared.members.SafeMember.{SafeMember}
use Rattle.mintcx_chain.specs.declared.stages.Stage.{Stage}
use Rattle.mintcx_chain.specs.Names.{IsShort, IsStage}
use Rattle.mintcx_optima.specs.Safe.{safe_stage}
use Rattle.mintcx_optima.proofs.holds.safe_stages.Goals as goal

pub loop-member-preserved : goal.loop-member-preserved
loop-member-preserved c =
    let design = c.args.system.now.flat in
    let members = c.args.members.now in
    let i = c.loop-member.member-index in
    let inv = c.loop-member.invariant in
    let old = c.loop-member.stages.items in
    let member = c.member-item.result in
    let this = c.in_ok-safe_stage.field-0 in
    let new = c.in_ok-push.ensures.items in
    record {
      value = rw (map_more (safe_stage design) members i member c.loop-member-test.true)
          (new ∙ ap (λ (v : List Stage). v ++ this ∷ []) inv.value
          ∙ ap (λ (v : Stage). map (safe_stage design) (take i members) ++ v ∷ []) c.in_ok-safe_stage.ensures.value
          ∙ ap (λ (m : SafeMember). map (safe_stage design) (take i members) ++ safe_stage design m ∷ []) c.member-item.is);
      each = subst (All (IsStage design)) (sym new) (All-push (IsStage design) old this inv.each c.in_ok-safe_stage.ensures.stage);
      short = subst (All IsShort) (sym new) (All-push IsShort old this inv.short c.in_ok-safe_stage.ensures.short);
    }
