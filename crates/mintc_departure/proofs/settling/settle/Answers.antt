use Rattle.std.proofs.Common.{arith, ap}
use Rattle.std.proofs.lemmas.Grind.{common_steps}
use Rattle.mintc_constraints.specs.Rooms.{Space}
use Rattle.mintc_departure.proofs.NetworkLaws.{arcs-ordinary, starts-ordinary}
use Rattle.mintc_departure.proofs.SettledLaws.{sums, settled-from_greatest, loop-from_walk}
use Rattle.mintc_departure.proofs.settling.settle.Goals as goal

pub walk-requires-clause-arcs : goal.walk-requires-clause-arcs
walk-requires-clause-arcs g c =
    rw c.fill_starts.ensures.count (arcs-ordinary c.args.clocked.now.system.now c.args.clocked.now.schedule.now c.count.ensures.kept)

pub walk-requires-clause-starts : goal.walk-requires-clause-starts
walk-requires-clause-starts g c =
    starts-ordinary c.args.clocked.now.system.now c.args.clocked.now.schedule.now c.count.ensures.kept c.fill_starts.new.room.values c.fill_starts.ensures.count c.fill_starts.ensures.each

pub keep_late-requires-in-Values-clause-range : goal.keep_late-requires-in-Values-clause-range
keep_late-requires-in-Values-clause-range g c =
    sums c.args.clocked.now.system.now c.args.clocked.now.schedule.now c.count.ensures.kept c.fill_starts.new.room.values c.fill_starts.ensures.count c.fill_starts.ensures.each
    c.walk.new.self.values c.walk.ensures.values c.in-Values.ensures.walked.0

pub returns-in-Values-clause-settled : goal.returns-in-Values-clause-settled
returns-in-Values-clause-settled g c =
    settled-from_greatest c.args.clocked.now.system.now c.args.clocked.now.schedule.now c.count.ensures.kept c.fill_starts.new.room.values c.fill_starts.ensures.count c.fill_starts.ensures.each
    c.walk.new.self.values c.keep_late-in-Values.new.room.late c.walk.ensures.values c.in-Values.ensures.walked.0 (ap (λ (r : Space). r.late) c.keep_late-in-Values.ensures)

pub returns-clause-settled : goal.returns-clause-settled
returns-clause-settled g c =
    loop-from_walk c.args.clocked.now.system.now c.args.clocked.now.schedule.now c.count.ensures.kept c.fill_starts.new.room.values c.fill_starts.ensures.count c.fill_starts.ensures.each
    c.walk.new.self.chain c.in-Chain.len c.in-Chain.ensures.walked.1 c.in-Chain.ensures.walked.0

pub walk-requires-clause-few : goal.walk-requires-clause-few
walk-requires-clause-few c = grind (arith, common_steps)
