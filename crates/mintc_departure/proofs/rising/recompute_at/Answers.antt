use Rattle.std.proofs.Common.{ℤ, List, sym, subst}
use Rattle.mintc_departure.specs.Rounds.{AreSwept}
use Rattle.mintc_departure.proofs.EarlyLaws.{rising-sums}
use Rattle.mintc_departure.proofs.SweepLaws.{swept-still, swept-more, written-above}
use Rattle.mintc_departure.proofs.rising.recompute_at.Goals as goal

pub recompute-requires-clause-departures : goal.recompute-requires-clause-departures
recompute-requires-clause-departures c =
    rising-sums c.args.clocked.now.system.now c.args.clocked.now.schedule.now c.requires.clocked
    c.args.room.now.late c.requires.late c.args.room.now.early c.requires.swept.rising

pub returns-then-not-recompute-clause-swept : goal.returns-then-not-recompute-clause-swept
returns-then-not-recompute-clause-swept c =
    let t = c.args.clocked.now.system.now in
    let s = c.args.clocked.now.schedule.now in
    let late = c.args.room.now.late in
    subst (λ (d : List ℤ). AreSwept t s late d c.remove.new.self.words.items) (sym c.if-not-recompute.ensures.same)
    (swept-still t s late c.args.room.now.early c.args.element c.args.stale.now.words.items c.remove.new.self.words.items c.requires.swept c.if-not-recompute.ensures.still c.remove.ensures.count c.remove.ensures.others)

pub returns-clause-swept : goal.returns-clause-swept
returns-clause-swept c =
    swept-more c.args.clocked.now.system.now c.args.clocked.now.schedule.now c.requires.clocked
    c.args.room.now.late c.requires.late c.args.room.now.early c.recompute.new.room.early c.args.element c.args.stale.now.words.items c.remove.new.self.words.items c.wake.new.stale.words.items
    c.requires.swept c.requires.element c.if-not-recompute.ensures.written c.remove.ensures.count c.remove.ensures.others c.wake.ensures.count c.wake.ensures.kept c.wake.ensures.woken

pub returns-clause-changed : goal.returns-clause-changed
returns-clause-changed c =
    written-above c.args.clocked.now.system.now c.args.clocked.now.schedule.now c.args.room.now.late c.args.room.now.early c.recompute.new.room.early c.args.element c.requires.swept.rising c.requires.element c.if-not-recompute.ensures.written
    c.if-not-recompute.ensures.changed
