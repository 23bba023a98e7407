use Rattle.std.proofs.Common.{◌++◌, ◌∙◌, ℤ, ap}
use Rattle.std.specs.Int.{w128}
use Rattle.std.proofs.lemmas.Int.{to_z-of_z}
use Rattle.std.proofs.lemmas.Result.{on_ok_weaker}
use Rattle.json.specs.Tree.{json_tokens}
use Rattle.mintcx_json.specs.Objects.{whole}
use Rattle.mintcx_json.proofs.PieceLaws.{one_field}
use Rattle.mintcx_json.proofs.fields.put_long.Goals as goal

pub returns : goal.returns
returns c =
    on_ok_weaker c.long.result
    (λ e. one_field c.args.sheet.now c.args.key.now (whole c.args.value) c.in_ok-key.ensures
    (e ∙ ap (λ (z : ℤ). c.key.new.self ++ json_tokens (whole z)) (to_z-of_z w128 c.args.value c.ranges.value)))
    c.long.ensures
