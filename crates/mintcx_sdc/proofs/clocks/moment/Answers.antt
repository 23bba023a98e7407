use Rattle.std.proofs.Common.{arith}
use Rattle.std.proofs.lemmas.Int.{clamps, ints, to_z-of_z}
use Rattle.mintc_timing.specs.Limits.{IsNumerator}
use Rattle.mintcx_sdc.specs.Clocks.{moment}
use Rattle.mintcx_sdc.proofs.MomentLaws.{moment_range}
use Rattle.mintcx_sdc.proofs.clocks.moment.Goals as goal

pub returns-clause-range : goal.returns-clause-range
returns-clause-range c =
    let s = c.args.schedule.now in
    let here : IsNumerator (moment s c.args.time) = moment_range c.args.time s.cycle c.requires.some c.requires.in_range.cycle in
    let low = here.0 in
    let high = here.1 in
    grind (arith, ints, clamps, to_z-of_z)
