use Rattle.std.proofs.Common.{arith}
use Rattle.std.proofs.lemmas.Int.{ints}
use Rattle.mintc_timing.specs.Design.{pair_at, no_pair}
use Rattle.mintc_timing.specs.Limits.{IsDelay}
use Rattle.mintcx_judgements.proofs.Sizes.{pair-min_range}
use Rattle.mintcx_judgements.proofs.sources.least_delay.Goals as goal

pub returns-clause-range : goal.returns-clause-range
returns-clause-range c =
    let t = c.args.told.now.system.now in
    let range : IsDelay (pair_at t c.args.pair).min = pair-min_range t.flat t.order t.pairs c.pair.ensures.design c.pair.ensures.kept c.args.pair no_pair c.requires in
    rw c.pair.ensures.value (omega (arith, ints), omega (arith, ints))
