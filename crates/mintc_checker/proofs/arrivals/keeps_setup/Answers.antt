use Rattle.std.proofs.Common.{◌≡◌, pos, ◌+ℤ◌, ◌*ℤ◌, arith, ap, ◌∙◌, refl, sym, subst, to_z, of_z, w64}
use Rattle.std.specs.Int.{int_max}
use Rattle.std.proofs.lemmas.Int.{ints, clamps}
use Rattle.mintc_timing.specs.declared.parts.Element.{Element}
use Rattle.mintc_timing.specs.Clocking.{width_of}
use Rattle.mintc_timing.specs.Departures.{departure}
use Rattle.mintc_timing.proofs.SharedFitting.{read_time, test_is, IsTime-IsGap, IsTime-IsDenominator, IsTime-IsNumerator}
use Rattle.mintc_timing.proofs.SharedSetupLaws.{KeepsSetup-latch}
use Rattle.mintc_checker.specs.Judged.{IsArrivalTime}
use Rattle.mintc_timing.specs.Design.{element_at}
use Rattle.mintc_checker.specs.Trails.{IsLastArrival}
use Rattle.mintc_checker.proofs.Deciding.{holds}
use Rattle.mintc_checker.proofs.Pairing.{of_timing, timing_of}
use Rattle.mintc_checker.proofs.Scaled.{scaled_is}
use Rattle.mintc_checker.proofs.Exact.{setup-flop, setup-none}
use Rattle.mintc_checker.proofs.arrivals.keeps_setup.Goals as goal

pub returns-then-not-element : goal.returns-then-not-element
returns-then-not-element c = of_timing _ _ (λ along pairs are_pairs.
    let e : Element = c.element-element.result.now in
    let s = c.args.clocked.now.schedule.now in
    let l = c.args.number in
    let here = c.element-element.ensures.value in
    let latch = sym (ap (λ (x : Element). x.flop) here) ∙ c.if-not-element.true in
    let setup = scaled_is c.times_denominator-setup.result e.setup s.den (IsTime-IsGap _ c.element-element.ensures.element.setup) (IsTime-IsDenominator _ c.args.clocked.now.in_range.den) c.times_denominator-setup.ensures.value
    ∙ ap (λ (x : Element). x.setup *ℤ s.den) here in
    let sum : to_z w64 (of_z w64 (to_z w64 (of_z w64 c.max-leaves.result) +ℤ to_z w64 (of_z w64 c.times_denominator-setup.result))) ≡ int_max (pos 0) c.departure_at.result +ℤ c.times_denominator-setup.result = omega (arith, ints, clamps, c.max-leaves.ensures.value) in
    test_is _ _ (int_max (pos 0) (departure c.args.departures.now l) +ℤ (element_at c.args.clocked.now.flat.now l).setup *ℤ s.den) (width_of s (element_at c.args.clocked.now.flat.now l).phase)
    (sum ∙ ap (λ z. int_max (pos 0) z +ℤ c.times_denominator-setup.result) c.departure_at.ensures.value ∙ ap (λ z. int_max (pos 0) (departure c.args.departures.now l) +ℤ z) setup)
    (read_time c.width.result (IsTime-IsNumerator _ c.width.ensures.range) ∙ c.width.ensures.value ∙ ap (λ (x : Element). width_of s x.phase) here)
    (KeepsSetup-latch (timing_of c.args.clocked.now.flat.now along pairs) s c.args.departures.now l latch))

pub returns-in-Some : goal.returns-in-Some
returns-in-Some c = λ t e are_pairs.
    let flop = sym (ap (λ (e : Element). e.flop) c.element-element.ensures.value) ∙ c.if-not-element.false in
    let last = subst (λ o. IsLastArrival c.args.clocked.now.flat.now c.args.clocked.now.schedule.now c.args.departures.now c.args.number o) c.in-Some.is (c.last_arrival.ensures.last c.args.departures.now c.requires.labels.each) in
    let range : IsArrivalTime c.in-Some.last = rw c.in-Some.is at c.last_arrival.ensures.range in
    let sum : to_z w64 (of_z w64 (to_z w64 (of_z w64 c.in-Some.last) +ℤ to_z w64 (of_z w64 c.times_denominator-setup.result))) ≡ c.in-Some.last +ℤ c.times_denominator-setup.result = omega (arith, ints) in
    let setup = scaled_is c.times_denominator-setup.result c.element-element.result.now.setup c.args.clocked.now.schedule.now.den (IsTime-IsGap _ c.element-element.ensures.element.setup) (IsTime-IsDenominator _ c.args.clocked.now.in_range.den) c.times_denominator-setup.ensures.value
    ∙ ap (λ (x : Element). x.setup *ℤ c.args.clocked.now.schedule.now.den) c.element-element.ensures.value in
    test_is _ _ (c.in-Some.last +ℤ (element_at c.args.clocked.now.flat.now c.args.number).setup *ℤ c.args.clocked.now.schedule.now.den) (pos 0)
    (sum ∙ ap (λ z. c.in-Some.last +ℤ z) setup)
    refl
    (setup-flop c.args.clocked.now.flat.now c.args.clocked.now.schedule.now c.args.departures.now c.args.number c.in-Some.last c.args.clocked.now.in_range.den.0 c.requires.number flop last t e are_pairs)

pub returns-in-None : goal.returns-in-None
returns-in-None c = λ t e are_pairs.
    let flop = sym (ap (λ (e : Element). e.flop) c.element-element.ensures.value) ∙ c.if-not-element.false in
    let last = subst (λ o. IsLastArrival c.args.clocked.now.flat.now c.args.clocked.now.schedule.now c.args.departures.now c.args.number o) c.in-None.is (c.last_arrival.ensures.last c.args.departures.now c.requires.labels.each) in
    holds (setup-none c.args.clocked.now.flat.now c.args.clocked.now.schedule.now c.args.departures.now c.args.number c.args.clocked.now.in_range.den.0 c.requires.number flop last t e are_pairs)
