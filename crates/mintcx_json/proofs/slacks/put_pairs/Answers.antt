use Rattle.std.proofs.Common.{◌++◌, ◌∙◌, ℤ, ap, codes, map}
use Rattle.std.specs.Int.{w128}
use Rattle.std.proofs.lemmas.Int.{to_z-of_z}
use Rattle.std.proofs.lemmas.Result.{on_ok_weaker}
use Rattle.mintcx_json.specs.Objects.{array_of}
use Rattle.mintcx_json.specs.Pieces.{values_tokens}
use Rattle.mintcx_json.specs.Slacks.{pair_value}
use Rattle.mintcx_json.proofs.PieceLaws.{one_array, one_field}
use Rattle.mintcx_json.proofs.slacks.put_pairs.Goals as goal

pub returns : goal.returns
returns c =
    let t = c.args.system.now in
    let values = map (pair_value t c.args.den) c.args.places.now in
    let written = c.in_ok-put_each_pair.ensures
    ∙ ap (λ (z : ℤ). c.open_array.new.self ++ values_tokens (map (pair_value t z) c.args.places.now)) (to_z-of_z w128 c.args.den c.ranges.den) in
    on_ok_weaker c.close_array.result
    (λ e. one_field c.args.sheet.now (codes "pairs") (array_of values) c.in_ok-key.ensures
    (one_array c.key.new.self values c.in_ok-open_array.ensures written e))
    c.close_array.ensures
