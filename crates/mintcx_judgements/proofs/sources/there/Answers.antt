use Rattle.std.proofs.Common.{arith}
use Rattle.std.proofs.lemmas.Int.{clamps, ints}
use Rattle.mintcx_judgements.proofs.sources.there.Goals as goal

pub returns-clause-range : goal.returns-clause-range
returns-clause-range c =
    let starts = c.start.ensures.range in
    let departs = c.departure.ensures.range in
    let leaves = c.max-leaves.ensures.value in
    (omega (arith, ints, clamps), omega (arith, ints, clamps))
