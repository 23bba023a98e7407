use Rattle.std.proofs.Common.{arith}
use Rattle.mintc_ratio.specs.declared.testing.Test.TheVariants.{Values, Chain}
use Rattle.mintc_ratio.proofs.SharedWholeCycles.{whole_cycle}
use Rattle.mintcx_cycles.proofs.CycleLaws.{right_at, sayable, short_at, short_in_range, tested_of}
use Rattle.mintcx_cycles.proofs.cycles.at_cycle.Goals as goal

pub schedule-requires-clause-cycle : goal.schedule-requires-clause-cycle
schedule-requires-clause-cycle g c = rw c.whole-at.ensures (whole_cycle c.args.cycle (omega arith))

pub schedule-requires-clause-sayable : goal.schedule-requires-clause-sayable
schedule-requires-clause-sayable g c =
    let tested = tested_of c.args.system.now c.args.cycle c.in_ok-list.list c.whole-at.result c.in_ok-room.room c.test_at.new.room Values c.in_ok-list.ensures.nodes c.in_ok-list.ensures.links c.whole-at.ensures (rw c.in-Values.is at c.test_at.ensures.tested) in
    rw c.values.ensures (sayable c.args.system.now c.in_ok-list.ensures.design c.in_ok-list.ensures.kept c.args.cycle (omega arith) c.test_at.new.room.values tested.0)

pub departures-requires : goal.departures-requires
departures-requires g c =
    let tested = tested_of c.args.system.now c.args.cycle c.in_ok-list.list c.whole-at.result c.in_ok-room.room c.test_at.new.room Values c.in_ok-list.ensures.nodes c.in_ok-list.ensures.links c.whole-at.ensures (rw c.in-Values.is at c.test_at.ensures.tested) in
    rw c.values-in-Values.ensures (sayable c.args.system.now c.in_ok-list.ensures.design c.in_ok-list.ensures.kept c.args.cycle (omega arith) c.test_at.new.room.values tested.0)

pub returns-in-Values-clause-value : goal.returns-in-Values-clause-value
returns-in-Values-clause-value g c =
    let tested = tested_of c.args.system.now c.args.cycle c.in_ok-list.list c.whole-at.result c.in_ok-room.room c.test_at.new.room Values c.in_ok-list.ensures.nodes c.in_ok-list.ensures.links c.whole-at.ensures (rw c.in-Values.is at c.test_at.ensures.tested) in
    right_at c.args.system.now c.in_ok-list.ensures.design c.in_ok-list.ensures.kept c.args.cycle (omega arith) c.test_at.new.room.values tested.0 c.schedule.result c.in_ok-departures-in-Values.field-0
    (rw (c.whole-at.ensures, c.values.ensures) at c.schedule.ensures.value) (rw c.values-in-Values.ensures at c.in_ok-departures-in-Values.ensures.value)

pub returns-clause-value : goal.returns-clause-value
returns-clause-value g c =
    let tested = tested_of c.args.system.now c.args.cycle c.in_ok-list.list c.whole-at.result c.in_ok-room.room c.test_at.new.room Chain c.in_ok-list.ensures.nodes c.in_ok-list.ensures.links c.whole-at.ensures (rw c.in-Chain.is at c.test_at.ensures.tested) in
    short_at c.args.system.now c.in_ok-list.ensures.design c.in_ok-list.ensures.kept c.args.cycle (omega arith) c.test_at.new.room.chain tested.0 tested.1 c.in_ok-members-in-Chain.field-0
    (rw (c.items-in-Chain.ensures.value, c.in_ok-list.ensures.links, c.chain.ensures) at c.in_ok-members-in-Chain.ensures)

pub returns-clause-in_range : goal.returns-clause-in_range
returns-clause-in_range g c =
    let tested = tested_of c.args.system.now c.args.cycle c.in_ok-list.list c.whole-at.result c.in_ok-room.room c.test_at.new.room Chain c.in_ok-list.ensures.nodes c.in_ok-list.ensures.links c.whole-at.ensures (rw c.in-Chain.is at c.test_at.ensures.tested) in
    short_in_range c.args.system.now c.in_ok-list.ensures.design c.in_ok-list.ensures.kept c.args.cycle (omega arith) c.test_at.new.room.chain tested.0 tested.1 c.in_ok-members-in-Chain.field-0
    (rw (c.items-in-Chain.ensures.value, c.in_ok-list.ensures.links, c.chain.ensures) at c.in_ok-members-in-Chain.ensures)
