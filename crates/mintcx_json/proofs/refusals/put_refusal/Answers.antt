use Rattle.std.proofs.Common.{codes}
use Rattle.std.proofs.lemmas.Result.{on_ok_weaker}
use Rattle.mintcx_json.specs.Objects.{object_of}
use Rattle.mintcx_json.specs.Refusals.{told_fields}
use Rattle.mintcx_json.proofs.PieceLaws.{one_field, one_object}
use Rattle.mintcx_json.proofs.refusals.put_refusal.Goals as goal

pub returns : goal.returns
returns c =
    let fields = told_fields c.args.told.now in
    on_ok_weaker c.close.result
    (λ e. one_field c.args.sheet.now (codes "refusal") (object_of fields) c.in_ok-key.ensures
    (one_object c.key.new.self fields c.in_ok-open.ensures c.in_ok-put_told.ensures e))
    c.close.ensures
