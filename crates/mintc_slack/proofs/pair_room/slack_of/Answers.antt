use Rattle.std.proofs.Common.{arith}
use Rattle.std.proofs.lemmas.Int.{ints}
use Rattle.mintc_slack.proofs.RoomLaws.{room_is_slack_lem}
use Rattle.mintc_slack.proofs.SizeLaws.{read_narrow, read_wide}
use Rattle.mintc_slack.proofs.pair_room.slack_of.Goals as goal

pub returns-clause-slack : goal.returns-clause-slack
returns-clause-slack c =
    let left = c.room_left.ensures in
    let read = read_wide c.room_left.result (omega (arith, ints), omega (arith, ints)) in
    rw (read_narrow c.floor_to_i64.result c.floor_to_i64.ensures.range)
    (room_is_slack_lem c.args.system.now c.args.cycle.now c.args.values.now c.args.number c.floor_to_i64.result left.design left.ends c.requires.least c.requires.number c.requires.settled.from
    (rw (read, left.value) at c.floor_to_i64.ensures.whole))
