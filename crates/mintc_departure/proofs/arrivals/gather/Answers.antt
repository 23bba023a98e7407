use Rattle.std.proofs.lemmas.Grind.{common_steps}
use Rattle.std.proofs.Common.{◌≡◌, ◌<◌, length, pos, set, get_or, arith, ap, ◌∙◌, length-set}
use Rattle.std.specs.Int.{int_min}
use Rattle.mintc_constraints.specs.Rooms.{Space}
use Rattle.mintc_timing.specs.Departures.{early_arrival}
use Rattle.mintc_timing.specs.Design.{pair_at}
use Rattle.mintc_timing.specs.Extremes.{least_of, lesser_of}
use Rattle.mintc_departure.specs.Rounds.{IsArrivalSum, IsFirst}
use Rattle.mintc_departure.proofs.Filling.{kept-values}
use Rattle.mintc_departure.proofs.Gathering.{gathered-more}
use Rattle.mintc_departure.proofs.SharedLesser.{first-more, least_of-push}
use Rattle.mintc_departure.proofs.arrivals.gather.Goals as goal

pub loop-number-preserved : goal.loop-number-preserved
loop-number-preserved c =
    let t = c.args.clocked.now.system.now in
    let s = c.args.clocked.now.schedule.now in
    let n = c.loop-number.number in
    let i = c.loop-number.invariant in
    let xs = c.loop-number.room.values in
    let p = pair_at t n in
    let f = early_arrival t.flat s c.args.room.now.early in
    let early : c.loop-number.room.early ≡ c.args.room.now.early = ap (λ (r : Space). r.early) i.kept in
    let h : n < length t.pairs = rw c.pairs-number-end.ensures.value at c.loop-number-test.true in
    let range : IsArrivalSum (f p) = rw early at c.lower_to.ensures.range in
    let written : c.lower_to.new.room.values ≡ set xs p.to (int_min (f p) (get_or xs p.to (pos 0))) = rw early at (ap (λ (r : Space). r.values) c.lower_to.ensures.value) in
    record {
      kept = kept-values c.args.room.now c.loop-number.room c.lower_to.new.room _ c.lower_to.ensures.value i.kept;
      count = ap length written ∙ length-set xs p.to _ ∙ i.count;
      gathered = gathered-more least_of lesser_of int_min IsFirst least_of-push first-more f t.pairs n _ xs c.lower_to.new.room.values h range (omega arith) written i.gathered;
    }

pub returns-clause-each : goal.returns-clause-each
returns-clause-each c = grind (arith, common_steps)
