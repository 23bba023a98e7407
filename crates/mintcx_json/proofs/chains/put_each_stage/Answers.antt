use Rattle.std.proofs.Common.{◌≡◌, ◌++◌, ◌∷◌, [], ◌∙◌, List, ap, arith, map, take, sym, to_z, of_z, w64}
use Rattle.std.proofs.lemmas.Grind.{common_steps}
use Rattle.std.proofs.lemmas.List.{take_more}
use Rattle.json.specs.Json.{Json}
use Rattle.json.specs.Tree.{json_tokens}
use Rattle.mintcx_chain.specs.declared.stages.Stage.{Stage}
use Rattle.mintcx_json.specs.Chains.{stage_value}
use Rattle.mintcx_json.specs.Pieces.{values_tokens}
use Rattle.mintcx_json.proofs.PieceLaws.{one_taken}
use Rattle.mintcx_json.proofs.chains.put_each_stage.Goals as goal

pub loop-stage-preserved : goal.loop-stage-preserved
loop-stage-preserved c =
    let design = c.args.flat.now in
    let value : Stage → Json = stage_value design (to_z w64 (of_z w64 c.args.den)) in
    let list = c.args.stages.now in
    let i = c.loop-stage.stage-index in
    let this = c.stage-item.result in
    let written : c.put_stage.new.sheet ≡ c.loop-stage.sheet ++ json_tokens (value this) = grind (arith, common_steps, c.in_ok-put_stage.ensures) in
    one_taken value c.args.sheet.now (take i list) this c.loop-stage.invariant written
    ∙ ap (λ (v : List Stage). c.args.sheet.now ++ values_tokens (map value v))
    (ap (λ (v : Stage). take i list ++ v ∷ []) c.stage-item.is ∙ sym (take_more list i this c.loop-stage-test.true))
