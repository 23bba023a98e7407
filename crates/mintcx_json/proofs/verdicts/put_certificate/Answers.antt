use Rattle.std.proofs.Common.{◌∷◌, [], codes}
use Rattle.std.proofs.lemmas.Result.{on_ok_weaker}
use Rattle.mintcx_json.specs.Objects.{name}
use Rattle.mintcx_json.specs.Verdicts.{claim_fields}
use Rattle.mintcx_json.proofs.PieceLaws.{and_fields}
use Rattle.mintcx_json.proofs.verdicts.put_certificate.Goals as goal

pub returns : goal.returns
returns c =
    on_ok_weaker c.put_claim.result
    (λ e. and_fields c.args.sheet.now ((codes "certificate", name c.args.called.now) ∷ []) (claim_fields (codes "claim") c.args.certificate.now) c.in_ok-put_name.ensures e)
    c.put_claim.ensures
