use Rattle.std.proofs.Common.{◌++◌, ◌∙◌, ℤ, ap, codes, map, w64}
use Rattle.std.proofs.lemmas.Int.{to_z-of_z}
use Rattle.std.proofs.lemmas.Result.{on_ok_weaker}
use Rattle.mintcx_json.specs.Objects.{array_of}
use Rattle.mintcx_json.specs.Chains.{arc_value}
use Rattle.mintcx_json.specs.Pieces.{values_tokens}
use Rattle.mintcx_json.proofs.PieceLaws.{one_array, one_field}
use Rattle.mintcx_json.proofs.chains.put_path.Goals as goal

pub returns : goal.returns
returns c =
    let values = map (arc_value c.args.flat.now c.args.den c.args.least) c.args.path.now in
    let written = c.in_ok-put_each_arc.ensures
    ∙ ap (λ (z : ℤ). c.open_array.new.self ++ values_tokens (map (arc_value c.args.flat.now z c.args.least) c.args.path.now)) (to_z-of_z w64 c.args.den c.ranges.den) in
    on_ok_weaker c.close_array.result
    (λ e. one_field c.args.sheet.now (codes "path") (array_of values) c.in_ok-key.ensures
    (one_array c.key.new.self values c.in_ok-open_array.ensures written e))
    c.close_array.ensures
