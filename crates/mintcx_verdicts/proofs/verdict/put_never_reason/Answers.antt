use Rattle.std.proofs.Common.{◌≡◌, ◌++◌, pos, ap, ◌∙◌}
use Rattle.std.proofs.lemmas.Result.{on_ok_weaker}
use Rattle.mintc_fraction.specs.Ratio.{over}
use Rattle.mintc_text.specs.Lines.{ended}
use Rattle.mintc_certificate.specs.declared.certificate.Certificate.TheVariants.{Never}
use Rattle.mintc_certificate.specs.declared.sums.ChainSums.{ChainSums}
use Rattle.mintc_certificate.specs.Valid.{ring}
use Rattle.mintcx_amounts.specs.declared.unit.Unit.{Unit}
use Rattle.mintcx_frame.specs.Ends.{unit_for}
use Rattle.mintcx_verdicts.specs.Chains.{stuck_line, sums_over}
use Rattle.mintcx_verdicts.specs.Verdicts.{chain_unit, test_of}
use Rattle.mintcx_verdicts.proofs.FailingLaws.{never_named}
use Rattle.mintcx_verdicts.proofs.ReasonLaws.{not_ring, reason_at, stuck_reason}
use Rattle.mintcx_verdicts.proofs.verdict.put_never_reason.Goals as goal

pub returns-then-number-eq6 : goal.returns-then-number-eq6
returns-then-number-eq6 c = λ vs.
    let t = c.args.system.now in
    let chain = c.args.chain.now in
    on_ok_weaker c.put_ring.result
    (λ e. (e.0, reason_at t (Never chain) (chain_unit t (Never chain) c.args.view.now) vs e.0 c.args.number ring (ap test_of c.if-number-eq6.true) e.1, e.2))
    c.put_ring.ensures

pub sums_over-sums-requires-clause-named : goal.sums_over-sums-requires-clause-named
sums_over-sums-requires-clause-named c =
    never_named c.args.system.now c.args.chain.now (test_of c.args.number) c.requires.fails (not_ring c.args.number c.if-number-eq6.false)

pub returns : goal.returns
returns c = λ vs.
    let t = c.args.system.now in
    let chain = c.args.chain.now in
    let view = c.args.view.now in
    let old = c.args.lines.now in
    let sums = sums_over t.flat chain in
    let unit = unit_for view.unit (over sums.delay (pos 1)) in
    let sums_are = c.sums_over-sums.ensures.value in
    let unit_is : c.unit_for.result ≡ unit =
    c.unit_for.ensures ∙ ap (unit_for view.unit) (c.delay.ensures.value ∙ ap (λ (x : ChainSums). over x.delay (pos 1)) sums_are) in
    on_ok_weaker c.put_stuck.result
    (λ e. (
      ended (stuck_line unit sums),
      stuck_reason t chain unit vs (test_of c.args.number) (not_ring c.args.number c.if-number-eq6.false),
      e ∙ ap (λ (u : Unit). old ++ ended (stuck_line u c.sums_over-sums.result)) unit_is ∙ ap (λ (x : ChainSums). old ++ ended (stuck_line unit x)) sums_are,
    ))
    c.put_stuck.ensures
