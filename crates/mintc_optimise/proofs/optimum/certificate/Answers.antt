use Rattle.mintc_optimise.proofs.SharedCertificateLaws.{made_least, made_never, sayable}
use Rattle.mintc_optimise.proofs.SharedTurnLaws.{beginning_inside, searched_named, stand_many, turned_room}
use Rattle.mintc_optimise.proofs.TurnedLaws.{are_turned}
use Rattle.mintc_timing.specs.Links.{link_at}
use Rattle.mintc_optimise.proofs.optimum.certificate.Goals as goal

pub beginning-requires : goal.beginning-requires
beginning-requires c = rw c.chain-numbers.ensures (searched_named c.args.list.now c.args.room.now c.args.outcome c.requires.searched)

pub turned-chain-requires : goal.turned-chain-requires
turned-chain-requires c =
    beginning_inside c.args.list.now.links c.chain-numbers.result.now c.in_ok-ring.ring c.in_ok-first.first c.in_ok-first.ensures
    (stand_many (link_at c.args.list.now.links) c.chain-numbers.result.now c.in_ok-ring.ring (rw c.items.ensures.value at c.in_ok-ring.ensures))

pub schedule-requires-clause-sayable : goal.schedule-requires-clause-sayable
schedule-requires-clause-sayable c =
    rw c.values.ensures (sayable c.args.system.now c.requires.design c.requires.kept c.args.room.now c.in-Least.cycle (rw (c.requires.list, c.in-Least.is) at c.requires.searched))

pub departures-requires : goal.departures-requires
departures-requires c =
    rw c.values-in-Least.ensures (sayable c.args.system.now c.requires.design c.requires.kept c.args.room.now c.in-Least.cycle (rw (c.requires.list, c.in-Least.is) at c.requires.searched))

pub returns-in_ok-departures-in-Least : goal.returns-in_ok-departures-in-Least
returns-in_ok-departures-in-Least c =
    let turned = are_turned c.args.system.now c.args.list.now c.args.room.now c.args.outcome c.in_ok-first.first c.chain-numbers.result.now c.in_ok-ring.ring c.turned-chain.result
    c.requires.list c.chain-numbers.ensures c.requires.searched c.in_ok-first.ensures (rw c.items.ensures.value at c.in_ok-ring.ensures) c.turned-chain.ensures in
    let made = made_least c.args.system.now c.requires.design c.requires.kept (turned_room c.in_ok-first.first c.args.room.now) c.in-Least.cycle (rw c.in-Least.is at turned.searched)
    c.turned-chain.result c.schedule.result c.in_ok-departures-in-Least.field-0 turned.stand
    (rw c.values.ensures at c.schedule.ensures.value) (rw c.values-in-Least.ensures at c.in_ok-departures-in-Least.ensures.value)
    c.schedule.ensures.in_range c.in_ok-departures-in-Least.ensures.in_range
    in record { valid = made.valid; optimal = made.optimal; earliest = made.earliest; simple = made.simple; begins = turned.begins; bounded = made.bounded; in_range = made.in_range; short = made.short }

pub returns-in-Never : goal.returns-in-Never
returns-in-Never c =
    let turned = are_turned c.args.system.now c.args.list.now c.args.room.now c.args.outcome c.in_ok-first.first c.chain-numbers.result.now c.in_ok-ring.ring c.turned-chain.result
    c.requires.list c.chain-numbers.ensures c.requires.searched c.in_ok-first.ensures (rw c.items.ensures.value at c.in_ok-ring.ensures) c.turned-chain.ensures in
    let made = made_never c.args.system.now c.requires.design c.requires.kept (turned_room c.in_ok-first.first c.args.room.now) c.turned-chain.result
    (rw c.in-Never.is at turned.searched) turned.stand
    in record { valid = made.valid; optimal = made.optimal; earliest = made.earliest; simple = made.simple; begins = turned.begins; bounded = made.bounded; in_range = made.in_range; short = made.short }
