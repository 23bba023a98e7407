use Rattle.std.proofs.Common.{◌≡◌, pos, ◌+ℤ◌, ◌-ℤ◌, Some, arith, ap, ◌∙◌, sym}
use Rattle.std.specs.Int.{int_max}
use Rattle.std.proofs.lemmas.Int.{ints, clamps}
use Rattle.mintc_timing.specs.declared.parts.Element.{Element}
use Rattle.mintc_timing.specs.Clocking.{width_of}
use Rattle.mintc_timing.specs.Departures.{departure}
use Rattle.mintc_timing.specs.Limits.{IsNumerator}
use Rattle.mintcx_judgements.specs.Sources.{setup_of}
use Rattle.mintcx_verdicts.proofs.SetupLaws.{latch_amount}
use Rattle.mintcx_verdicts.proofs.WideLaws.{amount_is, amount_late}
use Rattle.mintcx_verdicts.proofs.elements.setup_amount.Goals as goal

pub returns-then-not-found-clause-value : goal.returns-then-not-found-clause-value
returns-then-not-found-clause-value c =
    let judging = c.args.arrived.now.judging in
    let t = judging.told.system.now in
    let s = judging.told.schedule.now in
    let d = judging.departures.now in
    let l = c.args.element in
    let here = c.element-found.ensures.value in
    let latch = sym (ap (λ (e : Element). e.flop) here) ∙ c.if-not-found.true in
    let leaves : c.from.result ≡ int_max (pos 0) c.departure.result = omega (arith, ints, clamps, c.from.ensures, c.max-leaves.ensures.value, c.departure.ensures.range) in
    let width : c.from-then-not-found.result ≡ c.width-width.result = omega (arith, ints, c.from-then-not-found.ensures, c.width-width.ensures.range) in
    let leaves_in : IsNumerator c.from.result = (omega (arith, ints, clamps, leaves, c.departure.ensures.range), omega (arith, ints, clamps, leaves, c.departure.ensures.range)) in
    let width_in : IsNumerator c.from-then-not-found.result = (omega (arith, ints, width, c.width-width.ensures.range), omega (arith, ints, width, c.width-width.ensures.range)) in
    ap Some (amount_is c.from.result c.setup-setup.result c.from-then-not-found.result leaves_in c.setup-setup.ensures.range width_in
    ∙ ap (λ x. x +ℤ c.setup-setup.result -ℤ c.from-then-not-found.result) (leaves ∙ ap (int_max (pos 0)) c.departure.ensures.value)
    ∙ ap (λ x. int_max (pos 0) (departure d l) +ℤ x -ℤ c.from-then-not-found.result) c.setup-setup.ensures.value
    ∙ ap (λ x. int_max (pos 0) (departure d l) +ℤ setup_of t.flat s l -ℤ x) (width ∙ c.width-width.ensures.value ∙ ap (λ (e : Element). width_of s e.phase) here))
    ∙ latch_amount t s d l latch

pub returns-then-not-found-clause-range : goal.returns-then-not-found-clause-range
returns-then-not-found-clause-range c =
    let leaves : c.from.result ≡ int_max (pos 0) c.departure.result = omega (arith, ints, clamps, c.from.ensures, c.max-leaves.ensures.value, c.departure.ensures.range) in
    let width : c.from-then-not-found.result ≡ c.width-width.result = omega (arith, ints, c.from-then-not-found.ensures, c.width-width.ensures.range) in
    let leaves_in : IsNumerator c.from.result = (omega (arith, ints, clamps, leaves, c.departure.ensures.range), omega (arith, ints, clamps, leaves, c.departure.ensures.range)) in
    let width_in : IsNumerator c.from-then-not-found.result = (omega (arith, ints, width, c.width-width.ensures.range), omega (arith, ints, width, c.width-width.ensures.range)) in
    amount_late c.from.result c.setup-setup.result c.from-then-not-found.result leaves_in c.setup-setup.ensures.range width_in
