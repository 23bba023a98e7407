use Rattle.std.proofs.Common.{codes, length, map}
use Rattle.std.specs.List.{range_with_len}
use Rattle.std.proofs.lemmas.Result.{on_ok_weaker}
use Rattle.mintcx_json.specs.Corners.{alone_value}
use Rattle.mintcx_json.specs.Objects.{array_of}
use Rattle.mintcx_json.proofs.PieceLaws.{one_array, one_field}
use Rattle.mintcx_json.proofs.corners.put_corners.Goals as goal

pub returns : goal.returns
returns c =
    let names = c.args.corners.now.names.now in
    let values = map (alone_value names c.args.corners.now.alone.now) (range_with_len 0 (length names)) in
    on_ok_weaker c.close_array.result
    (λ e. one_field c.args.sheet.now (codes "corners") (array_of values) c.in_ok-key.ensures
    (one_array c.key.new.self values c.in_ok-open_array.ensures c.in_ok-put_each_alone.ensures e))
    c.close_array.ensures
