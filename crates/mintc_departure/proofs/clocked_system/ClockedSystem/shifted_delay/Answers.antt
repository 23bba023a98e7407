use Rattle.std.proofs.Common.{◌≡◌, ◌*ℤ◌, arith, SFits, w64}
use Rattle.std.proofs.lemmas.Int.{ints, to_z-of_z}
use Rattle.mintc_departure.proofs.clocked_system.ClockedSystem.shifted_delay.Goals as goal

pub overflow_add-result : goal.overflow_add-result
overflow_add-result c =
    omega (arith, ints)

pub returns-clause-value : goal.returns-clause-value
returns-clause-value c =
    let den = c.args.self.now.schedule.now.den in
    let den_fits : SFits w64 den = omega (arith, ints) in
    let product : c.times_denominator.result ≡ c.args.delay *ℤ den = rw (to_z-of_z w64 c.args.delay c.ranges.delay, to_z-of_z w64 den den_fits) at c.times_denominator.ensures.value in
    let shifted = c.shift.ensures.value in
    rw (← product, ← shifted) (omega (arith, ints))

pub returns-clause-range : goal.returns-clause-range
returns-clause-range c =
    (omega (arith, ints), omega (arith, ints))
