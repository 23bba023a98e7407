use Rattle.std.proofs.lemmas.Result.{on_ok_weaker}
use Rattle.std.proofs.Common.{◌≡◌, true, false, subst, arith}
use Rattle.mintc_fraction.specs.Ratio.{over}
use Rattle.mintc_text.specs.Lines.{ended}
use Rattle.mintc_certificate.specs.declared.certificate.Certificate.TheVariants.{Least}
use Rattle.mintc_certificate.specs.Valid.{sums}
use Rattle.mintc_checker.specs.Verdicts.{FailsFirst}
use Rattle.mintcx_verdicts.specs.Arrivals.{departures_text, setups_text}
use Rattle.mintcx_verdicts.specs.Chains.{sums_over, tight_line}
use Rattle.mintcx_verdicts.specs.Rules.{rules_text}
use Rattle.mintcx_verdicts.specs.Verdicts.{test_of}
use Rattle.mintcx_verdicts.proofs.FailingLaws.{least_named}
use Rattle.mintcx_verdicts.proofs.ReasonLaws.{bounds_reason, clock_reason, departures_reason, is_sums, ring_reason, setups_reason, sums_reason}
use Rattle.mintcx_verdicts.proofs.verdict.put_least_reason.Goals as goal

pub returns-in-2 : goal.returns-in-2
returns-in-2 c =
    let told = c.args.judging.now.told in
    let t = told.system.now in
    let s = told.schedule.now in
    let d = c.args.judging.now.departures.now in
    let chain = c.args.chain.now in
    let vs = c.args.violations.now in
    on_ok_weaker c.put_rules.result (λ e. (rules_text t s told.unit false vs, clock_reason t s d chain told.unit vs c.args.number c.in-2.is, e)) c.put_rules.ensures

pub returns-in-3 : goal.returns-in-3
returns-in-3 c =
    let told = c.args.judging.now.told in
    let t = told.system.now in
    let s = told.schedule.now in
    let d = c.args.judging.now.departures.now in
    let chain = c.args.chain.now in
    let vs = c.args.violations.now in
    on_ok_weaker c.put_rules-in-3.result (λ e. (rules_text t s told.unit true vs, bounds_reason t s d chain told.unit vs c.args.number c.in-3.is, e)) c.put_rules-in-3.ensures

pub returns-in-4 : goal.returns-in-4
returns-in-4 c =
    let told = c.args.judging.now.told in
    let t = told.system.now in
    let s = told.schedule.now in
    let d = c.args.judging.now.departures.now in
    let chain = c.args.chain.now in
    let vs = c.args.violations.now in
    on_ok_weaker c.put_departures.result (λ e. (departures_text t s d told.unit, departures_reason t s d chain told.unit vs c.args.number c.in-4.is, e)) c.put_departures.ensures

pub returns-in-5 : goal.returns-in-5
returns-in-5 c =
    let told = c.args.judging.now.told in
    let t = told.system.now in
    let s = told.schedule.now in
    let d = c.args.judging.now.departures.now in
    let chain = c.args.chain.now in
    let vs = c.args.violations.now in
    on_ok_weaker c.put_setups.result (λ e. (setups_text t s d told.unit, setups_reason t s d chain told.unit vs c.args.number c.in-5.is, e)) c.put_setups.ensures

pub returns-in-6 : goal.returns-in-6
returns-in-6 c =
    let told = c.args.judging.now.told in
    let t = told.system.now in
    let s = told.schedule.now in
    let d = c.args.judging.now.departures.now in
    let chain = c.args.chain.now in
    let vs = c.args.violations.now in
    on_ok_weaker c.put_ring.result (λ e. (e.0, ring_reason t s d chain told.unit vs c.args.number e.0 c.in-6.is e.1, e.2)) c.put_ring.ensures

pub put_least_sums-requires-clause-named : goal.put_least_sums-requires-clause-named
put_least_sums-requires-clause-named c =
    let told = c.args.judging.now.told in
    let t = told.system.now in
    let s = told.schedule.now in
    let d = c.args.judging.now.departures.now in
    let chain = c.args.chain.now in
    let n = c.args.number in
    let own = c.in_default.in_default-own.rest in
    let last : test_of n ≡ sums = is_sums n c.requires.behind (λ e. grind (arith, e, own)) (λ e. grind (arith, e, own)) (λ e. grind (arith, e, own)) (λ e. grind (arith, e, own)) (λ e. grind (arith, e, own)) in
    least_named t s d chain (subst (FailsFirst t (Least s d chain)) last c.requires.fails)

pub returns-in_default : goal.returns-in_default
returns-in_default c =
    let told = c.args.judging.now.told in
    let t = told.system.now in
    let s = told.schedule.now in
    let d = c.args.judging.now.departures.now in
    let chain = c.args.chain.now in
    let vs = c.args.violations.now in
    let n = c.args.number in
    let own = c.in_default.in_default-own.rest in
    let last : test_of n ≡ sums = is_sums n c.requires.behind (λ e. grind (arith, e, own)) (λ e. grind (arith, e, own)) (λ e. grind (arith, e, own)) (λ e. grind (arith, e, own)) (λ e. grind (arith, e, own)) in
    on_ok_weaker c.put_least_sums.result
    (λ e. (ended (tight_line told.unit (over s.cycle s.den) (sums_over t.flat chain)), sums_reason t s d chain told.unit vs n last, e))
    c.put_least_sums.ensures
