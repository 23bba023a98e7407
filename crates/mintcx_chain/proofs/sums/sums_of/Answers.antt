use Rattle.std.proofs.Common.{sym, subst, arith}
use Rattle.std.proofs.lemmas.Int.{ints}
use Rattle.mintcx_chain.specs.Names.{IsShort}
use Rattle.mintcx_chain.proofs.RowLaws.{cycles_more, delay_more}
use Rattle.mintcx_chain.proofs.sums.sums_of.Goals as goal

pub loop-stage-preserved : goal.loop-stage-preserved
loop-stage-preserved c =
    let below = c.loop-stage-test.true in
    let i = c.loop-stage.stage-index in
    let k = c.stage-item.result in
    let short : IsShort k = subst IsShort (sym c.stage-item.is) (c.requires.short i k below) in
    let low = short.span.0 in
    let high = short.span.1 in
    let few = short.cycles in
    let delay = delay_more c.args.stages.now i k below c.stage-item.is in
    let cycles = cycles_more c.args.stages.now i k below c.stage-item.is in
    record {
      delay_is = omega (arith, ints);
      delay_low = omega (arith, ints);
      delay_high = omega (arith, ints);
      cycles_is = omega (arith, ints);
      cycles_high = omega (arith, ints);
    }
