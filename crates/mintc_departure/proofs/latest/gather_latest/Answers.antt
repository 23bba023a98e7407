use Rattle.std.proofs.lemmas.Grind.{common_steps}
use Rattle.std.proofs.Common.{◌≡◌, ◌<◌, length, pos, set, get_or, arith, ap, ◌∙◌, length-set}
use Rattle.std.specs.Int.{int_max}
use Rattle.mintc_constraints.specs.Rooms.{Space}
use Rattle.mintc_timing.specs.Departures.{late_arrival}
use Rattle.mintc_timing.specs.Design.{pair_at}
use Rattle.mintc_timing.specs.Extremes.{greater_of, greatest_of}
use Rattle.mintc_timing.proofs.SharedExtremesLaws.{greatest_of-push}
use Rattle.mintc_departure.specs.Excesses.{IsLast}
use Rattle.mintc_departure.specs.Rounds.{IsArrivalSum}
use Rattle.mintc_departure.proofs.Filling.{kept-values}
use Rattle.mintc_departure.proofs.Gathering.{gathered-more}
use Rattle.mintc_departure.proofs.Greater.{last-more}
use Rattle.mintc_departure.proofs.latest.gather_latest.Goals as goal

pub loop-number-preserved : goal.loop-number-preserved
loop-number-preserved c =
    let t = c.args.clocked.now.system.now in
    let s = c.args.clocked.now.schedule.now in
    let n = c.loop-number.number in
    let i = c.loop-number.invariant in
    let xs = c.loop-number.room.values in
    let p = pair_at t n in
    let f = late_arrival t.flat s c.args.room.now.late in
    let late : c.loop-number.room.late ≡ c.args.room.now.late = ap (λ (r : Space). r.late) i.kept in
    let h : n < length t.pairs = rw c.pairs-number-end.ensures.value at c.loop-number-test.true in
    let range : IsArrivalSum (f p) = rw late at c.bring_latest.ensures.range in
    let written : c.bring_latest.new.room.values ≡ set xs p.to (int_max (f p) (get_or xs p.to (pos 0))) = rw late at (ap (λ (r : Space). r.values) c.bring_latest.ensures.value) in
    record {
      kept = kept-values c.args.room.now c.loop-number.room c.bring_latest.new.room _ c.bring_latest.ensures.value i.kept;
      count = ap length written ∙ length-set xs p.to _ ∙ i.count;
      gathered = gathered-more greatest_of greater_of int_max IsLast greatest_of-push last-more f t.pairs n _ xs c.bring_latest.new.room.values h range (omega arith) written i.gathered;
    }

pub returns-clause-each : goal.returns-clause-each
returns-clause-each c = grind (arith, common_steps)
