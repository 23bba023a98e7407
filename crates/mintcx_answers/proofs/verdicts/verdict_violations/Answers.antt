use Rattle.std.proofs.Common.{◌∙◌, sym}
use Rattle.std.proofs.lemmas.Result.{IfOk-weaker}
use Rattle.mintc_timing.specs.Violations.{AreViolations}
use Rattle.mintcx_answers.specs.Answers.{AreOfVerdict}
use Rattle.mintcx_answers.proofs.VerdictLaws.{rules_told}
use Rattle.mintcx_answers.proofs.verdicts.verdict_violations.Goals as goal

pub returns-then-fails_rule-clause-told : goal.returns-then-fails_rule-clause-told
returns-then-fails_rule-clause-told c =
    let t = c.args.system.now in
    let own = c.args.certificate.now in
    let v = c.args.verdict in
    IfOk-weaker c.schedule_violations.result (λ found. AreViolations t c.in-Least.schedule found.items) (λ found. AreOfVerdict t own v found.items)
    (λ found h. rules_told t own c.in-Least.schedule c.in-Least.departures c.in-Least.chain v found.items c.in-Least.is (sym c.fails_rule.ensures ∙ c.if-fails_rule.true) h)
    c.schedule_violations.ensures.found
