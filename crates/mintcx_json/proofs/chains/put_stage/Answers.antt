use Rattle.std.proofs.Common.{◌≡◌, ◌++◌, ◌∙◌, ap, ℤ, w64}
use Rattle.std.proofs.lemmas.Int.{to_z-of_z}
use Rattle.std.proofs.lemmas.Result.{on_ok_weaker}
use Rattle.mintcx_json.specs.Chains.{stage_fields}
use Rattle.mintcx_json.specs.Pieces.{fields_tokens}
use Rattle.mintcx_json.proofs.PieceLaws.{one_object}
use Rattle.mintcx_json.proofs.chains.put_stage.Goals as goal

pub returns : goal.returns
returns c =
    let design = c.args.flat.now in
    let k = c.args.stage.now in
    let said = c.in_ok-put_stage_fields.ensures
    ∙ ap (λ (z : ℤ). c.open.new.self ++ fields_tokens (stage_fields design z k)) (to_z-of_z w64 c.args.den c.ranges.den) in
    on_ok_weaker c.close.result
    (λ e. one_object c.args.sheet.now (stage_fields design c.args.den k) c.in_ok-open.ensures said e)
    c.close.ensures
