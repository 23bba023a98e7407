use Rattle.std.proofs.Common.{codes, pos}
use Rattle.std.proofs.lemmas.Result.{on_ok_weaker}
use Rattle.json.specs.Json.{string}
use Rattle.mintcx_json.specs.Objects.{whole}
use Rattle.mintcx_json.proofs.PieceLaws.{in_two}
use Rattle.mintcx_json.proofs.verdicts.put_never_claim.Goals as goal

pub returns : goal.returns
returns c =
    on_ok_weaker c.put_whole.result
    (λ e. in_two c.args.sheet.now (c.args.key.now, string (codes "never")) (codes "den", whole (pos 1)) c.in_ok-put_word.ensures e)
    c.put_whole.ensures
