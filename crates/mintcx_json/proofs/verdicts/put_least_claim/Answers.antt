use Rattle.std.proofs.Common.{◌∷◌, [], codes}
use Rattle.std.proofs.lemmas.Result.{on_ok_weaker}
use Rattle.json.specs.Json.{string}
use Rattle.mintcx_json.specs.Verdicts.{cycle_fields}
use Rattle.mintcx_json.proofs.PieceLaws.{and_fields}
use Rattle.mintcx_json.proofs.verdicts.put_least_claim.Goals as goal

pub returns : goal.returns
returns c =
    on_ok_weaker c.put_cycle.result
    (λ e. and_fields c.args.sheet.now ((c.args.key.now, string (codes "least")) ∷ []) (cycle_fields c.args.schedule.now) c.in_ok-put_word.ensures e)
    c.put_cycle.ensures
