use Rattle.std.proofs.Common.{◌≡◌, ◌-ℤ◌, ◌*ℤ◌, arith, ap, ◌∙◌}
use Rattle.std.proofs.lemmas.Int.{ints}
use Rattle.mintc_timing.specs.Clocking.{least_width, width_of}
use Rattle.mintc_timing.proofs.SharedFitting.{read_time, IsTime-IsDelay, IsTime-IsDenominator}
use Rattle.mintc_timing_links.proofs.excess.width_excess.Goals as goal

pub returns-clause-value : goal.returns-clause-value
returns-clause-value c =
    let s = c.args.schedule.now in
    let least = least_width c.args.flat.now c.args.phase in
    let product : c.times_denominator.result ≡ least *ℤ s.den =
    rw (read_time c.width_needed.result (IsTime-IsDelay _ c.width_needed.ensures.range), read_time s.den (IsTime-IsDenominator _ c.requires.in_range.den)) at c.times_denominator.ensures.value ∙ ap (λ z. z *ℤ s.den) c.width_needed.ensures.value in
    let is : c.times_denominator.result -ℤ c.width.result ≡ least *ℤ s.den -ℤ width_of s c.args.phase = ap (λ z. z -ℤ c.width.result) product ∙ ap (λ z. least *ℤ s.den -ℤ z) c.width.ensures.value in
    let a = c.times_denominator.ensures.range in
    let b = c.width.ensures.range in
    rw (← is) (omega (arith, ints))
