use Rattle.std.proofs.Common.{◌≡◌, ◌*ℤ◌, true, Some, arith, ap, ⊎_elim, of_z}
use Rattle.std.specs.Int.{w128}
use Rattle.std.proofs.lemmas.Int.{ints}
use Rattle.mintc_timing.specs.declared.parts.Element.{Element}
use Rattle.mintc_timing.specs.Design.{element_at}
use Rattle.mintc_timing.proofs.SharedFitting.{read_time, IsTime-IsGap, IsTime-IsDenominator}
use Rattle.mintc_departure.specs.declared.arrivals.TheConstants.{NEVER}
use Rattle.mintc_departure.specs.Rounds.{IsArrivalSum}
use Rattle.mintc_departure.proofs.SharedLesser.{first-some}
use Rattle.mintc_departure.proofs.element_checks.hold_excess.Goals as goal

comes : (c : goal.After-result-1) → c.args.first ≡ NEVER → ⊥
comes c = λ e. c.if-first-eq-NEVER.false (ap (of_z w128) e)

arrives : (c : goal.After-result-1) → IsArrivalSum c.args.first
arrives c = ⊎_elim (λ e. absurd (comes c e)) (λ r. r) c.requires.first

pub overflow_add-result-2 : goal.overflow_add-result-2
overflow_add-result-2 c =
    omega (arith, ints, arrives c)

pub overflow_sub-result : goal.overflow_sub-result
overflow_sub-result c =
    omega (arith, ints, arrives c)

pub returns-clause-value : goal.returns-clause-value
returns-clause-value c d is =
    let t = c.args.clocked.now.system.now in
    let s = c.args.clocked.now.schedule.now in
    let e : Element = c.element-element.result.now in
    let here : e ≡ element_at t.flat c.args.number = c.element-element.ensures.value in
    let has : (element_at t.flat c.args.number).has_hold ≡ true = rw here at c.if-not-element.false in
    let hold : c.times_denominator-hold.result ≡ (element_at t.flat c.args.number).hold *ℤ s.den =
    rw (read_time e.hold (IsTime-IsGap _ c.element-element.ensures.kept.hold), read_time s.den (IsTime-IsDenominator _ c.args.clocked.now.in_range.den), here) at c.times_denominator-hold.ensures.value in
    rw (has, first-some _ c.args.first is (comes c)) (ap Some (omega (arith, ints, arrives c)))

pub returns-clause-range : goal.returns-clause-range
returns-clause-range c =
    (omega (arith, ints, arrives c), omega (arith, ints, arrives c))
