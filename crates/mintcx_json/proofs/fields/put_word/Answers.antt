use Rattle.std.proofs.lemmas.Result.{on_ok_weaker}
use Rattle.json.specs.Json.{string}
use Rattle.mintcx_json.proofs.PieceLaws.{one_field}
use Rattle.mintcx_json.proofs.fields.put_word.Goals as goal

pub returns : goal.returns
returns c = on_ok_weaker c.word.result (λ e. one_field c.args.sheet.now c.args.key.now (string c.args.word.now) c.in_ok-key.ensures e) c.word.ensures
