use Rattle.std.proofs.Common.{◌≡◌, ◌++◌, ◌∷◌, ◌∙◌, ℕ, List, ap, codes}
use Rattle.std.proofs.lemmas.Result.{on_ok_weaker}
use Rattle.mintcx_json.specs.Objects.{Field, head_fields, name}
use Rattle.mintcx_json.specs.Pieces.{fields_tokens}
use Rattle.mintcx_json.specs.Verdicts.{claim_fields, test_fields, verdict_status, verdict_word}
use Rattle.mintcx_json.proofs.PieceLaws.{and_fields, one_object}
use Rattle.mintcx_json.proofs.verdicts.put_verdict.Goals as goal

pub returns : goal.returns
returns c =
    let examined = c.args.examined.now in
    let v = examined.verdict in
    let verify = codes "verify" in
    let head = head_fields verify (verdict_status v) (verdict_word v) examined.design.now in
    let claim : List Field = (codes "certificate", name c.args.called.now) ∷ claim_fields (codes "claim") examined.certificate.now in
    let test = test_fields examined.system.now examined.violations.now v in
    let begun = c.in_ok-put_head.ensures
    ∙ ap (λ (n : ℕ). c.open.new.self ++ fields_tokens (head_fields verify n c.verdict_word-word.result.now examined.design.now)) c.verdict_status-status.ensures
    ∙ ap (λ (word : List ℕ). c.open.new.self ++ fields_tokens (head_fields verify (verdict_status v) word examined.design.now)) c.verdict_word-word.ensures in
    on_ok_weaker c.close.result
    (λ e. one_object c.args.sheet.now (head ++ claim ++ test) c.in_ok-open.ensures
    (and_fields c.open.new.self (head ++ claim) test (and_fields c.open.new.self head claim begun c.in_ok-put_certificate.ensures) c.in_ok-put_test.ensures) e)
    c.close.ensures
