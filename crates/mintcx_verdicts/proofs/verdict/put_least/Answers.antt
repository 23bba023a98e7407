use Rattle.std.proofs.Common.{◌++◌, ℤ, List, ap, ◌∙◌, subst}
use Rattle.std.proofs.lemmas.Result.{on_ok_weaker}
use Rattle.mintc_timing.specs.Design.{Design}
use Rattle.mintc_certificate.specs.declared.certificate.Certificate.{Certificate}
use Rattle.mintc_certificate.specs.declared.certificate.Certificate.TheVariants.{Least}
use Rattle.mintc_certificate.specs.Ranges.{IsCertificateInRange, IsLeastInRange}
use Rattle.mintc_checker.specs.Verdicts.{FailsFirst}
use Rattle.mintcx_verdicts.specs.Counts.{counts_text}
use Rattle.mintcx_verdicts.specs.Verdicts.{chain_unit, test_of}
use Rattle.mintcx_verdicts.proofs.FailingLaws.{phases_are}
use Rattle.mintcx_verdicts.proofs.ReasonLaws.{counts_reason, not_counts}
use Rattle.mintcx_verdicts.proofs.verdict.put_least.Goals as goal

pub returns-then-number-eq1 : goal.returns-then-number-eq1
returns-then-number-eq1 c =
    let examined = c.args.examined.now in
    let t = examined.system.now in
    let s = c.args.least.now.schedule.now in
    let d = c.args.least.now.departures.now in
    let old = c.args.lines.now in
    let unit = chain_unit t examined.certificate.now c.args.view.now in
    on_ok_weaker c.put_counts.result
    (λ e. (
      counts_text t.flat s d,
      counts_reason t s d c.args.least.now.chain.now unit examined.violations.now c.args.number examined.certificate.now c.requires.is_least c.if-number-eq1.true,
      e ∙ ap (λ (v : Design). old ++ counts_text v s c.items-departures.result.now) c.flat.ensures.value ∙ ap (λ (v : List ℤ). old ++ counts_text t.flat s v) c.items-departures.ensures,
    ))
    c.put_counts.ensures

pub invariant_of-told : goal.invariant_of-told
invariant_of-told c =
    let t = c.args.examined.now.system.now in
    let s = c.args.least.now.schedule.now in
    let d = c.args.least.now.departures.now in
    let chain = c.args.least.now.chain.now in
    let n = c.args.number in
    let range : IsLeastInRange s d chain = subst IsCertificateInRange c.requires.is_least c.requires.in_range in
    let fails : FailsFirst t (Least s d chain) (test_of n) = subst (λ (x : Certificate). FailsFirst t x (test_of n)) c.requires.is_least c.requires.fails in record {
      in_range = range.schedule_in;
      phases = phases_are t s d chain (test_of n) fails (not_counts n c.if-number-eq1.false);
    }
