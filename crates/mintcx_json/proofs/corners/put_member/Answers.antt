use Rattle.std.proofs.Common.{◌≡◌, ◌++◌, ◌∷◌, [], ◌∙◌, ℕ, ℤ, ap, codes, w64, to_z, of_z, arith}
use Rattle.std.proofs.lemmas.Grind.{common_steps}
use Rattle.std.proofs.lemmas.Int.{to_z-of_z}
use Rattle.std.proofs.lemmas.Result.{on_ok_weaker}
use Rattle.mintc_timing.specs.Design.{Design}
use Rattle.mintcx_chain.specs.declared.stages.Stage.{Stage}
use Rattle.mintcx_joint.specs.Shown.{design_of, own_stage}
use Rattle.mintcx_json.specs.Chains.{stage_fields}
use Rattle.mintcx_json.specs.Objects.{Field, count}
use Rattle.mintcx_json.specs.Pieces.{fields_tokens}
use Rattle.mintcx_json.proofs.PieceLaws.{and_fields, one_object}
use Rattle.mintcx_json.proofs.corners.put_member.Goals as goal

pub returns : goal.returns
returns c =
    let ts = c.args.systems.now in
    let m = c.args.member.now in
    let den = c.args.den in
    let design = design_of ts m in
    let stage = own_stage ts m in
    let corner : Field = (codes "corner", count m.corner) in
    let counted = c.in_ok-put_count.ensures ∙ ap (λ (n : ℕ). c.open.new.self ++ fields_tokens ((codes "corner", count n) ∷ [])) c.from.ensures in
    let own : c.flat-flat.result.now ≡ design = grind (arith, common_steps, c.flat-flat.ensures.value, c.corner_of.ensures) in
    let told = c.in_ok-put_stage_fields.ensures
    ∙ ap (λ (x : Design). c.put_count.new.sheet ++ fields_tokens (stage_fields x (to_z w64 (of_z w64 den)) c.in_ok-stage.stage)) own
    ∙ ap (λ (x : Stage). c.put_count.new.sheet ++ fields_tokens (stage_fields design (to_z w64 (of_z w64 den)) x)) c.in_ok-stage.ensures.value
    ∙ ap (λ (z : ℤ). c.put_count.new.sheet ++ fields_tokens (stage_fields design z stage)) (to_z-of_z w64 den c.ranges.den) in
    on_ok_weaker c.close.result
    (λ e. one_object c.args.sheet.now (corner ∷ stage_fields design den stage) c.in_ok-open.ensures
    (and_fields c.open.new.self (corner ∷ []) (stage_fields design den stage) counted told) e)
    c.close.ensures
