use Rattle.std.proofs.Common.{◌≡◌, ◌++◌, ℕ, List, ap, ◌∙◌, sym, subst}
use Rattle.mintc_checker.specs.declared.verdict.Verdict.{Verdict}
use Rattle.mintcx_verdicts.specs.Verdicts.{IsVerdictText, failed_head, valid_text}
use Rattle.mintcx_verdicts.proofs.verdict.verdict_text.Goals.{in-Valid+in_ok-put_valid-in-Valid, in-Invalid+in_ok-put_failed-in-Invalid+in_ok-put_reason-in-Invalid}
use Rattle.mintcx_verdicts.proofs.verdict.verdict_text.Goals as goal

pub returns : goal.returns
returns c =
    let examined = c.args.examined.now in
    let t = examined.system.now in
    let certificate = examined.certificate.now in
    let design = examined.design.now in
    let view = c.args.view.now in
    let vs = examined.violations.now in
    let text = c.new.result in
    let lines_are : text ≡ c.match-examined.lines = c.new.ensures ∙ c.into_bytes.ensures in
    elim c.match-examined.branch [
      | in-Valid+in_ok-put_valid-in-Valid w ↦
          subst (λ (v : Verdict). IsVerdictText t certificate design view vs v text) (sym w.in-Valid.is)
          (lines_are ∙ w.lines-is ∙ w.in_ok-put_valid-in-Valid.ensures ∙ ap (λ (o : List ℕ). o ++ valid_text certificate design view) c.new-lines.ensures)
      | in-Invalid+in_ok-put_failed-in-Invalid+in_ok-put_reason-in-Invalid w ↦
          let n = w.in-Invalid.number in
          let e = w.in_ok-put_reason-in-Invalid.ensures in
          subst (λ (v : Verdict). IsVerdictText t certificate design view vs v text) (sym w.in-Invalid.is) (
            e.0,
            e.1,
            lines_are ∙ w.lines-is ∙ e.2
                ∙ ap (λ (o : List ℕ). o ++ e.0) (w.in_ok-put_failed-in-Invalid.ensures ∙ ap (λ (o : List ℕ). o ++ failed_head n view) c.new-lines.ensures),
          )
    ]
