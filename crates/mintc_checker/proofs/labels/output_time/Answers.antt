use Rattle.std.proofs.Common.{◌≡◌, ◌*ℤ◌, arith}
use Rattle.std.proofs.lemmas.Int.{ints}
use Rattle.mintc_timing.proofs.SharedFitting.{read_time, IsTime-IsDelay, IsTime-IsDenominator}
use Rattle.mintc_timing.specs.Design.{element_at}
use Rattle.mintc_checker.proofs.labels.output_time.Goals as goal

pub returns-clause-value : goal.returns-clause-value
returns-clause-value c =
    let den = c.args.departing.now.den in
    let product : c.times_denominator.result ≡ (element_at c.args.departing.now.flat.now c.args.number).dq_max *ℤ den =
    rw (read_time c.element.result.now.dq_max (IsTime-IsDelay _ c.element.ensures.element.dq_max), read_time den (IsTime-IsDenominator _ c.args.departing.now.is_den), c.element.ensures.value) at c.times_denominator.ensures.value in
    rw (← product, ← c.departure_at.ensures.value) (omega (arith, ints))
