use Rattle.std.proofs.Common.{arith}
use Rattle.std.proofs.lemmas.Int.{ints}
use Rattle.mintc_timing.specs.Design.{pair_at, no_pair}
use Rattle.mintc_timing.specs.Limits.{IsDelay}
use Rattle.mintc_departure.proofs.SharedSizes.{pair-min_range}
use Rattle.mintc_departure.proofs.amounts.least_delay.Goals as goal

pub returns-clause-range : goal.returns-clause-range
returns-clause-range c =
    let t = c.args.system.now in
    let range : IsDelay (pair_at t c.args.number).min = pair-min_range t.flat t.order t.pairs c.pair.ensures.design c.pair.ensures.kept c.args.number no_pair c.requires.number in
    rw c.pair.ensures.value (omega (arith, ints), omega (arith, ints))
