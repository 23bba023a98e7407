use Rattle.std.proofs.Common.{◌≡◌, arith, ap, ◌∙◌, sym, Some, None, subst, to_z, of_z, w64}
use Rattle.std.specs.Int.{int_max}
use Rattle.std.proofs.lemmas.Int.{ints, clamps}
use Rattle.mintc_timing.specs.declared.parts.Element.{Element}
use Rattle.mintc_timing.proofs.SharedFitting.{read_time, IsTime-IsModest}
use Rattle.mintc_checker.specs.Judged.{IsArrivalTime}
use Rattle.mintc_checker.specs.Trails.{IsLastArrival}
use Rattle.mintc_checker.proofs.Exact.{departs-latch}
use Rattle.mintc_checker.proofs.arrivals.late_departure.Goals as goal

pub returns-in-Some : goal.returns-in-Some
returns-in-Some c = record {
  value = λ d labels t e are_pairs.
      let latch = sym (ap (λ (e : Element). e.flop) c.element.ensures.value) ∙ c.if-element.false in
      let last = subst (λ o. IsLastArrival c.args.clocked.now.flat.now c.args.clocked.now.schedule.now d c.args.number o) c.in-Some.is (c.last_arrival.ensures.last d labels) in
      let range : IsArrivalTime c.in-Some.last = rw c.in-Some.is at c.last_arrival.ensures.range in
      let top : to_z w64 (of_z w64 c.max.result) ≡ int_max c.opening-open.result c.in-Some.last = omega (arith, ints, clamps, c.max.ensures.value) in
      top
      ∙ ap (λ z. int_max z c.in-Some.last) c.opening-open.ensures.value
      ∙ departs-latch c.args.clocked.now.flat.now c.args.clocked.now.schedule.now d c.args.number (Some c.in-Some.last) c.args.clocked.now.in_range.den.0 c.requires.number latch last t e are_pairs;
}

pub returns-in-None : goal.returns-in-None
returns-in-None c = record {
  value = λ d labels t e are_pairs.
      let latch = sym (ap (λ (e : Element). e.flop) c.element.ensures.value) ∙ c.if-element.false in
      let last = subst (λ o. IsLastArrival c.args.clocked.now.flat.now c.args.clocked.now.schedule.now d c.args.number o) c.in-None.is (c.last_arrival.ensures.last d labels) in
      read_time c.opening-open.result (IsTime-IsModest _ c.opening-open.ensures.range)
      ∙ c.opening-open.ensures.value
      ∙ departs-latch c.args.clocked.now.flat.now c.args.clocked.now.schedule.now d c.args.number None c.args.clocked.now.in_range.den.0 c.requires.number latch last t e are_pairs;
}
