use Rattle.std.proofs.Common.{ℕ, map, arith}
use Rattle.std.specs.List.{range_with_len}
use Rattle.std.proofs.lemmas.List.FromFn.{map-range_with_len_more}
use Rattle.json.specs.Json.{Json}
use Rattle.mintcx_json.specs.Judgements.{departing_value}
use Rattle.mintcx_json.proofs.PieceLaws.{one_more}
use Rattle.mintcx_json.proofs.judgements.put_each_departing.Goals as goal

pub loop-number-preserved : goal.loop-number-preserved
loop-number-preserved c =
    let value : ℕ → Json = departing_value c.args.flat.now c.args.departing.now.late.now c.args.departing.now.early.now in
    let n = c.loop-number.number in
    rw (map-range_with_len_more value 0 n n (omega arith))
    (one_more c.args.sheet.now (map value (range_with_len 0 n)) (value n) c.loop-number.invariant c.in_ok-put_departing.ensures)
