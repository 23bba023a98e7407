use Rattle.std.proofs.Common.{◌≡◌, pos, ◌*ℤ◌, true, false, Some, arith, ap, ⊎_elim, of_z}
use Rattle.std.specs.Int.{w128, int_max}
use Rattle.std.proofs.lemmas.Int.{ints, clamps}
use Rattle.mintc_timing.specs.declared.parts.Element.{Element}
use Rattle.mintc_timing.specs.Clocking.{width_of}
use Rattle.mintc_timing.specs.Design.{element_at, phase_of}
use Rattle.mintc_timing.proofs.SharedFitting.{read_time, IsTime-IsGap, IsTime-IsDenominator}
use Rattle.mintc_departure.specs.declared.latest.TheConstants.{LONG_AGO}
use Rattle.mintc_departure.specs.Rounds.{IsArrivalSum}
use Rattle.mintc_departure.proofs.Greater.{last-some}
use Rattle.mintc_departure.proofs.element_checks.setup_excess.Goals as goal

-- what the code reads of the greater of 0 and the departure
opened : (c : goal.After-width) → c.max.result ≡ int_max (pos 0) c.args.time
opened c = omega (arith, ints, clamps, c.max.ensures.value)

pub overflow_sub-result : goal.overflow_sub-result
overflow_sub-result c =
    omega (arith, ints, clamps, opened c)

pub returns-then-not-element-clause-value : goal.returns-then-not-element-clause-value
returns-then-not-element-clause-value c d leaves is =
    let t = c.args.clocked.now.system.now in
    let s = c.args.clocked.now.schedule.now in
    let e : Element = c.element-element.result.now in
    let here : e ≡ element_at t.flat c.args.number = c.element-element.ensures.value in
    let latch : (element_at t.flat c.args.number).flop ≡ false = rw here at c.if-not-element.true in
    let setup : c.times_denominator-setup.result ≡ (element_at t.flat c.args.number).setup *ℤ s.den =
    rw (read_time e.setup (IsTime-IsGap _ c.element-element.ensures.kept.setup), read_time s.den (IsTime-IsDenominator _ c.args.clocked.now.in_range.den), here) at c.times_denominator-setup.ensures.value in
    let wide : c.width.result ≡ width_of s (phase_of t.flat c.args.number) = rw here at c.width.ensures.value in
    rw (latch, leaves) (ap Some (omega (arith, ints, clamps, opened c)))

pub returns-then-not-element-clause-range : goal.returns-then-not-element-clause-range
returns-then-not-element-clause-range c =
    (omega (arith, ints, clamps, opened c), omega (arith, ints, clamps, opened c))

comes : (c : goal.Else-last-eq-LONG_AGO) → c.args.last ≡ LONG_AGO → ⊥
comes c = λ e. c.if-last-eq-LONG_AGO.false (ap (of_z w128) e)

arrives : (c : goal.Else-last-eq-LONG_AGO) → IsArrivalSum c.args.last
arrives c = ⊎_elim (λ e. absurd (comes c e)) (λ r. r) c.requires.last

pub overflow_add-result-2 : goal.overflow_add-result-2
overflow_add-result-2 c =
    omega (arith, ints, arrives c)

pub returns-clause-value : goal.returns-clause-value
returns-clause-value c d leaves is =
    let t = c.args.clocked.now.system.now in
    let s = c.args.clocked.now.schedule.now in
    let e : Element = c.element-element.result.now in
    let here : e ≡ element_at t.flat c.args.number = c.element-element.ensures.value in
    let flop : (element_at t.flat c.args.number).flop ≡ true = rw here at c.if-not-element.false in
    let setup : c.times_denominator-setup.result ≡ (element_at t.flat c.args.number).setup *ℤ s.den =
    rw (read_time e.setup (IsTime-IsGap _ c.element-element.ensures.kept.setup), read_time s.den (IsTime-IsDenominator _ c.args.clocked.now.in_range.den), here) at c.times_denominator-setup.ensures.value in
    rw (flop, last-some _ c.args.last is (comes c)) (ap Some (omega (arith, ints, arrives c)))

pub returns-clause-range : goal.returns-clause-range
returns-clause-range c =
    (omega (arith, ints, arrives c), omega (arith, ints, arrives c))
