use Rattle.std.proofs.Common.{◌≡◌, ◌∙◌, ◌*ℤ◌}
use Rattle.mintc_timing.proofs.SharedFitting.{read_time, IsTime-IsDelay, IsTime-IsDenominator, IsTime-IsModest}
use Rattle.mintc_checker.proofs.labels.carry_step.Goals as goal

pub returns-clause-joined : goal.returns-clause-joined
returns-clause-joined c =
    let max = c.args.step.max in
    let den = c.args.departing.now.den in
    let product : c.times_denominator.result ≡ max *ℤ den =
    rw (read_time max (IsTime-IsDelay _ c.requires.delay), read_time den (IsTime-IsDenominator _ c.args.departing.now.is_den)) at c.times_denominator.ensures.value in
    rw (read_time c.times_denominator.result (IsTime-IsModest _ c.times_denominator.ensures.range) ∙ product) at c.carry.ensures.joined
