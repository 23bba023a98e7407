use Rattle.std.proofs.lemmas.Result.{on_ok_weaker}
use Rattle.mintcx_json.specs.Objects.{count}
use Rattle.mintcx_json.proofs.PieceLaws.{one_field}
use Rattle.mintcx_json.proofs.fields.put_count.Goals as goal

pub returns : goal.returns
returns c = on_ok_weaker c.count.result (λ e. one_field c.args.sheet.now c.args.key.now (count c.args.number) c.in_ok-key.ensures e) c.count.ensures
