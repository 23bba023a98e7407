use Rattle.std.proofs.Common.{ℕ, map, arith}
use Rattle.std.specs.List.{range_with_len}
use Rattle.std.proofs.lemmas.List.FromFn.{map-range_with_len_more}
use Rattle.json.specs.Json.{Json}
use Rattle.mintcx_json.specs.Corners.{alone_value}
use Rattle.mintcx_json.proofs.PieceLaws.{one_more}
use Rattle.mintcx_json.proofs.corners.put_each_alone.Goals as goal

pub loop-corner-preserved : goal.loop-corner-preserved
loop-corner-preserved c =
    let value : ℕ → Json = alone_value c.args.corners.now.names.now c.args.corners.now.alone.now in
    let n = c.loop-corner.corner in
    rw (map-range_with_len_more value 0 n n (omega arith))
    (one_more c.args.sheet.now (map value (range_with_len 0 n)) (value n) c.loop-corner.invariant c.in_ok-put_alone.ensures)
