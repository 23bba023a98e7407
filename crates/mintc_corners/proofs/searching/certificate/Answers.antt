use Rattle.mintc_optimise.proofs.SharedTurnLaws.{beginning_inside, searched_named, turned_room}
use Rattle.mintc_corners.proofs.SharedMadeLaws.{answered}
use Rattle.mintc_corners.proofs.TurnLaws.{are_turned, joint_many}
use Rattle.mintc_corners.proofs.searching.certificate.Goals as goal

pub beginning-requires : goal.beginning-requires
beginning-requires c = rw c.chain-numbers.ensures (searched_named c.args.list.now c.args.room.now c.args.outcome c.requires.searched)

pub turned-chain-requires : goal.turned-chain-requires
turned-chain-requires c =
    beginning_inside c.args.list.now.links c.chain-numbers.result.now c.in_ok-ring.ring c.in_ok-first.first c.in_ok-first.ensures
    (joint_many c.args.systems.now c.chain-numbers.result.now c.in_ok-ring.ring c.in_ok-ring.ensures)

pub joint_schedule-requires-clause-sayable : goal.joint_schedule-requires-clause-sayable
joint_schedule-requires-clause-sayable c =
    let all = answered c.args.room.now c.args.systems.now c.requires.few c.requires.alike c.requires.elements c.requires.kept in
    rw c.values.ensures (all.sayable c.in-Least.cycle (rw (c.requires.list, c.in-Least.is) at c.requires.searched))

pub all_departures-requires-clause-sayable : goal.all_departures-requires-clause-sayable
all_departures-requires-clause-sayable c =
    let all = answered c.args.room.now c.args.systems.now c.requires.few c.requires.alike c.requires.elements c.requires.kept in
    rw c.values-in-Least.ensures (all.sayable c.in-Least.cycle (rw (c.requires.list, c.in-Least.is) at c.requires.searched))

pub returns-in_ok-departures-in-Least : goal.returns-in_ok-departures-in-Least
returns-in_ok-departures-in-Least c =
    let turned = are_turned c.args.systems.now c.args.list.now c.args.room.now c.args.outcome c.in_ok-first.first c.chain-numbers.result.now c.in_ok-ring.ring c.turned-chain.result
    c.requires.list c.chain-numbers.ensures c.requires.searched c.in_ok-first.ensures c.in_ok-ring.ensures c.turned-chain.ensures in
    let all = answered (turned_room c.in_ok-first.first c.args.room.now) c.args.systems.now c.requires.few c.requires.alike c.requires.elements c.requires.kept in
    let made = all.least c.in-Least.cycle c.in_ok-schedule-in-Least.schedule c.in_ok-departures-in-Least.departures c.turned-chain.result (rw c.in-Least.is at turned.searched)
    (rw c.values.ensures at c.in_ok-schedule-in-Least.ensures.value) (rw c.values-in-Least.ensures at c.in_ok-departures-in-Least.ensures.value) turned.stand
    c.in_ok-schedule-in-Least.ensures.in_range c.in_ok-departures-in-Least.ensures.in_range
    in record { optimum = made; begins = turned.begins }

pub returns-in-Never : goal.returns-in-Never
returns-in-Never c =
    let turned = are_turned c.args.systems.now c.args.list.now c.args.room.now c.args.outcome c.in_ok-first.first c.chain-numbers.result.now c.in_ok-ring.ring c.turned-chain.result
    c.requires.list c.chain-numbers.ensures c.requires.searched c.in_ok-first.ensures c.in_ok-ring.ensures c.turned-chain.ensures in
    let all = answered (turned_room c.in_ok-first.first c.args.room.now) c.args.systems.now c.requires.few c.requires.alike c.requires.elements c.requires.kept in
    let made = all.never c.turned-chain.result (rw c.in-Never.is at turned.searched) turned.stand
    in record { optimum = made; begins = turned.begins }
