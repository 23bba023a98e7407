use Rattle.std.proofs.Common.{List, subst}
use Rattle.std.proofs.lemmas.Result.{IfOk-weaker}
use Rattle.mintc_timing.specs.declared.violation.Violation.{Violation}
use Rattle.mintcx_json.specs.Verdicts.{IsVerdictObject}
use Rattle.mintcx_answers.specs.Answers.{IsVerdictAsObject}
use Rattle.mintcx_answers.proofs.verdicts.verdict_object.Goals as goal

pub returns : goal.returns
returns c =
    let judged = c.args.judged.now in
    let t = judged.system.now in
    let own = judged.certificate.now in
    let design = judged.design.now in
    let view = c.args.view.now in
    IfOk-weaker c.verdict_json.result (IsVerdictObject t own design view.subject c.as_slice.result.now judged.verdict) (IsVerdictAsObject t own design view judged.verdict)
    (λ text h. (
      c.in_ok-found.found.items,
      c.in_ok-found.ensures.told,
      subst (λ (vs : List Violation). IsVerdictObject t own design view.subject vs judged.verdict text) c.as_slice.ensures.value h,
    ))
    c.verdict_json.ensures
