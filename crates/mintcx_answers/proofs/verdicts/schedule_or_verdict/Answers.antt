use Rattle.std.proofs.lemmas.Result.{IfOk-weaker}
use Rattle.mintcx_answers.specs.Answers.{IsScheduleOrVerdict, IsToldVerdict}
use Rattle.mintcx_answers.proofs.VerdictLaws.{told_invalid, told_never}
use Rattle.mintcx_answers.proofs.verdicts.schedule_or_verdict.Goals as goal

pub returns-in-Invalid : goal.returns-in-Invalid
returns-in-Invalid c =
    let judged = c.args.judged.now in
    let told = IsToldVerdict judged.system.now judged.certificate.now judged.design.now c.args.view.now judged.verdict in
    let wanted = IsScheduleOrVerdict judged.system.now judged.certificate.now judged.design.now c.args.view.now judged.verdict in
    IfOk-weaker c.told_verdict.result told wanted
    (λ text h. told_invalid judged.system.now judged.certificate.now c.in-Least.schedule c.in-Least.departures c.in-Least.chain judged.design.now c.args.view.now judged.verdict _ text c.in-Least.is c.in-Invalid.is h)
    c.told_verdict.ensures

pub returns-in-Never : goal.returns-in-Never
returns-in-Never c =
    let judged = c.args.judged.now in
    let told = IsToldVerdict judged.system.now judged.certificate.now judged.design.now c.args.view.now judged.verdict in
    let wanted = IsScheduleOrVerdict judged.system.now judged.certificate.now judged.design.now c.args.view.now judged.verdict in
    IfOk-weaker c.told_verdict-in-Never.result told wanted
    (λ text h. told_never judged.system.now judged.certificate.now c.in-Never.chain judged.design.now c.args.view.now judged.verdict text c.in-Never.is h)
    c.told_verdict-in-Never.ensures
