use Rattle.std.proofs.Common.{◌≡◌, OnOk, ap, ◌∙◌, sym, subst}
use Rattle.mintc_certificate.specs.declared.certificate.Certificate.{Certificate}
use Rattle.mintc_certificate.specs.declared.certificate.Certificate.TheVariants.{Never}
use Rattle.mintcx_verdicts.specs.Verdicts.{IsReason, IsWritten, chain_unit, test_of}
use Rattle.mintcx_verdicts.proofs.verdict.put_reason.Goals as goal

pub returns-in-Never : goal.returns-in-Never
returns-in-Never c =
    let examined = c.args.examined.now in
    let t = examined.system.now in
    let vs = examined.violations.now in
    let same : Never c.items.result.now ≡ examined.certificate.now = ap Never c.items.ensures ∙ sym c.in-Never.is in
    subst (λ (x : Certificate). OnOk c.put_never_reason.result (IsWritten (IsReason t x (chain_unit t x c.args.view.now) vs (test_of c.args.number)) c.args.lines.now c.put_never_reason.new.lines))
    same (c.put_never_reason.ensures vs)
