use Rattle.std.proofs.lemmas.Result.{on_ok_weaker}
use Rattle.mintcx_json.specs.Objects.{name}
use Rattle.mintcx_json.proofs.PieceLaws.{one_field}
use Rattle.mintcx_json.proofs.fields.put_name.Goals as goal

pub returns : goal.returns
returns c = on_ok_weaker c.name.result (λ e. one_field c.args.sheet.now c.args.key.now (name c.args.bytes.now) c.in_ok-key.ensures e) c.name.ensures
