use Rattle.std.proofs.Common.{ℤ, List, ap, ◌∙◌, sym}
use Rattle.mintc_constraints.specs.Rooms.{Space}
use Rattle.mintc_departure.proofs.EarlyLaws.{rising-first, rising-more, rising-last, rising-sums}
use Rattle.mintc_departure.proofs.Filling.{kept-round}
use Rattle.mintc_departure.proofs.Missing.{round-falls}
use Rattle.mintc_departure.proofs.rounds.rise_in_rounds.Goals as goal

pub loop-init : goal.loop-init
loop-init c =
    let filled = c.fill_early_starts.ensures in
    let early = c.fill_early_starts.new.room.early in
    record {
      kept = filled.kept ∙ ap (λ (xs : List ℤ). record c.args.room.now { early = early; values = xs }) (sym (ap (λ (r : Space). r.values) filled.kept));
      rising = rising-first c.args.clocked.now.system.now c.args.clocked.now.schedule.now c.fill_early_starts.ensures.clocked c.args.room.now.late c.requires.late early filled.count filled.each;
    }

pub gather-requires-clause-departures : goal.gather-requires-clause-departures
gather-requires-clause-departures c =
    rising-sums c.args.clocked.now.system.now c.args.clocked.now.schedule.now c.fill_early_starts.ensures.clocked c.args.room.now.late c.requires.late _ c.loop.invariant.rising

pub raise-requires-clause-departures : goal.raise-requires-clause-departures
raise-requires-clause-departures c =
    rw (ap (λ (r : Space). r.early) c.gather.ensures.kept)
    (rising-sums c.args.clocked.now.system.now c.args.clocked.now.schedule.now c.fill_early_starts.ensures.clocked c.args.room.now.late c.requires.late _ c.loop.invariant.rising)

pub returns-then-not-raise-clause-early : goal.returns-then-not-raise-clause-early
returns-then-not-raise-clause-early c =
    let same = ap (λ (r : Space). r.early) c.gather.ensures.kept in
    rising-last c.args.clocked.now.system.now c.args.clocked.now.schedule.now c.fill_early_starts.ensures.clocked c.args.room.now.late c.requires.late c.loop.room.early c.raise.new.room.early
    c.loop.invariant.rising c.raise.ensures.count (rw same at c.raise.ensures.each) (λ l h. sym ((rw same at c.if-not-raise.ensures.still) l h))

pub loop-smaller : goal.loop-smaller
loop-smaller c =
    let t = c.args.clocked.now.system.now in
    let s = c.args.clocked.now.schedule.now in
    let same = ap (λ (r : Space). r.early) c.gather.ensures.kept in
    let round = rw same at c.raise.ensures.each in
    let next = rising-more t s c.fill_early_starts.ensures.clocked c.args.room.now.late c.requires.late c.loop.room.early c.raise.new.room.early c.loop.invariant.rising c.raise.ensures.count round in
    round-falls t s c.args.room.now.late c.loop.room.early c.raise.new.room.early c.loop.invariant.rising next round (rw same at c.if-not-raise.ensures.changed)

pub loop-preserved : goal.loop-preserved
loop-preserved c = record {
  kept = kept-round c.args.room.now c.loop.room c.gather.new.room c.raise.new.room c.gather.ensures.kept c.raise.ensures.kept c.loop.invariant.kept;
  rising = rising-more c.args.clocked.now.system.now c.args.clocked.now.schedule.now c.fill_early_starts.ensures.clocked c.args.room.now.late c.requires.late c.loop.room.early c.raise.new.room.early c.loop.invariant.rising
      c.raise.ensures.count (rw (ap (λ (r : Space). r.early) c.gather.ensures.kept) at c.raise.ensures.each);
}
