use Rattle.std.proofs.Common.{◌∷◌, []}
use Rattle.std.proofs.lemmas.Result.{on_ok_weaker}
use Rattle.json.specs.Json.{string}
use Rattle.mintcx_json.specs.Objects.{count}
use Rattle.mintcx_json.proofs.PieceLaws.{and_values}
use Rattle.mintcx_json.proofs.refusals.put_worded.Goals as goal

pub returns : goal.returns
returns c =
    on_ok_weaker c.put_one.result
    (λ e. and_values c.args.sheet.now (string c.args.word.now ∷ []) (count c.args.number ∷ []) c.in_ok-word.ensures e)
    c.put_one.ensures
