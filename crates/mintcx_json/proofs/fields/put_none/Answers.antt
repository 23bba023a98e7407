use Rattle.std.proofs.Common.{[], sym, append-nil}
use Rattle.std.proofs.lemmas.Result.{on_ok_weaker}
use Rattle.mintcx_json.specs.Objects.{array_of}
use Rattle.mintcx_json.proofs.PieceLaws.{one_array, one_field}
use Rattle.mintcx_json.proofs.fields.put_none.Goals as goal

pub returns : goal.returns
returns c =
    on_ok_weaker c.close_array.result
    (λ e. one_field c.args.sheet.now c.args.key.now (array_of []) c.in_ok-key.ensures
    (one_array c.key.new.self [] c.in_ok-open_array.ensures (sym (append-nil c.open_array.new.self)) e))
    c.close_array.ensures
