use Rattle.std.proofs.Common.{arith}
use Rattle.std.proofs.lemmas.Int.{ints}
use Rattle.mintc_slack.proofs.pair_room.room_left.Goals as goal

pub negated_sum-requires-clause-x : goal.negated_sum-requires-clause-x
negated_sum-requires-clause-x c = let small = c.requires.small c.reach-link.result.from c.reach-link.ensures.from in (omega (arith, ints), omega (arith, ints))
