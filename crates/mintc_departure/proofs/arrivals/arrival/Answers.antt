use Rattle.std.proofs.Common.{◌≡◌, arith, ap}
use Rattle.std.proofs.lemmas.Int.{ints}
use Rattle.mintc_timing.specs.declared.parts.Pair.{Pair}
use Rattle.mintc_timing.specs.Departures.{departure}
use Rattle.mintc_departure.specs.Settled.{IsSum}
use Rattle.mintc_departure.proofs.EarlyLaws.{early-arrival-is}
use Rattle.mintc_departure.proofs.arrivals.arrival.Goals as goal

pub returns : goal.returns
returns c =
    let d : IsSum (departure c.args.departures.now c.pair.result.now.from) = c.requires.departures.each c.pair.result.now.from c.pair.ensures.from in
    let is = c.early_delay.ensures.value in
    let same : departure c.args.departures.now c.pair.result.now.from ≡ departure c.args.departures.now _ = ap (λ (p : Pair). departure c.args.departures.now p.from) c.pair.ensures.value in
    record {
      value = rw (early-arrival-is c.args.clocked.now.system.now c.args.clocked.now.schedule.now c.args.departures.now _, ← is, ← same) (omega (arith, ints));
      range = (omega (arith, ints), omega (arith, ints));
    }

pub overflow_add-result : goal.overflow_add-result
overflow_add-result c =
    let d : IsSum (departure c.args.departures.now c.pair.result.now.from) = c.requires.departures.each c.pair.result.now.from c.pair.ensures.from in
    omega (arith, ints)
