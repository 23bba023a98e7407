use Rattle.std.proofs.Common.{ap}
use Rattle.mintc_constraints.specs.Rooms.{Space}
use Rattle.mintc_timing.specs.Design.{element_count}
use Rattle.mintc_departure.proofs.EarlyLaws.{rising-sums}
use Rattle.mintc_departure.proofs.Missing.{missing-falls}
use Rattle.mintc_departure.proofs.SweepLaws.{swept-last}
use Rattle.mintc_departure.proofs.rising.rise.Goals as goal

pub loop-smaller : goal.loop-smaller
loop-smaller c =
    let t = c.args.clocked.now.system.now in
    let s = c.args.clocked.now.schedule.now in
    let swept = rw (ap (λ (r : Space). r.late) c.loop.invariant.kept) at c.sweep.ensures.swept in
    let changed = c.loop-test.ensures.changed in
    missing-falls t s c.args.room.now.late c.loop.room.early c.sweep.new.room.early (element_count t.flat) changed.0 c.sweep.ensures.up swept.rising.before changed.1 changed.2

pub returns-clause-early : goal.returns-clause-early
returns-clause-early c =
    swept-last c.args.clocked.now.system.now c.args.clocked.now.schedule.now c.loop.room.late c.sweep.new.room.early c.sweep.new.stale.words.items c.sweep.ensures.swept c.loop-test.ensures.none

pub returns-clause-sums : goal.returns-clause-sums
returns-clause-sums c =
    rising-sums c.args.clocked.now.system.now c.args.clocked.now.schedule.now c.requires.clocked
    c.args.room.now.late c.requires.late c.sweep.new.room.early
    (rw (ap (λ (r : Space). r.late) c.loop.invariant.kept) at c.sweep.ensures.swept).rising
