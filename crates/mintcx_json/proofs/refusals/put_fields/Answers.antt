use Rattle.std.proofs.Common.{codes}
use Rattle.std.proofs.lemmas.Result.{on_ok_weaker}
use Rattle.mintcx_json.specs.Objects.{array_of}
use Rattle.mintcx_json.specs.Refusals.{field_values}
use Rattle.mintcx_json.proofs.PieceLaws.{one_array, one_field}
use Rattle.mintcx_json.proofs.refusals.put_fields.Goals as goal

pub returns : goal.returns
returns c =
    let values = field_values c.args.refusal.now in
    on_ok_weaker c.close_array.result
    (λ e. one_field c.args.sheet.now (codes "fields") (array_of values) c.in_ok-key.ensures
    (one_array c.key.new.self values c.in_ok-open_array.ensures c.in_ok-put_values.ensures e))
    c.close_array.ensures
