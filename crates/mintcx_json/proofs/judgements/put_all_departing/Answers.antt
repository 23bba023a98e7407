use Rattle.std.proofs.Common.{codes, map}
use Rattle.std.specs.List.{range_with_len}
use Rattle.std.proofs.lemmas.Result.{on_ok_weaker}
use Rattle.mintc_timing.specs.Design.{element_count}
use Rattle.mintcx_json.specs.Objects.{array_of}
use Rattle.mintcx_json.specs.Judgements.{departing_value}
use Rattle.mintcx_json.proofs.PieceLaws.{one_array, one_field}
use Rattle.mintcx_json.proofs.judgements.put_all_departing.Goals as goal

pub returns : goal.returns
returns c =
    let values = map (departing_value c.args.flat.now c.args.departing.now.late.now c.args.departing.now.early.now) (range_with_len 0 (element_count c.args.flat.now)) in
    on_ok_weaker c.close_array.result
    (λ e. one_field c.args.sheet.now (codes "elements") (array_of values) c.in_ok-key.ensures
    (one_array c.key.new.self values c.in_ok-open_array.ensures c.in_ok-put_each_departing.ensures e))
    c.close_array.ensures
