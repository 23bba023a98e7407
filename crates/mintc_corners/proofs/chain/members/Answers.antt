use Rattle.std.proofs.Common.{arith}
use Rattle.std.proofs.lemmas.Grind.{common_steps}
use Rattle.mintc_corners.proofs.SharedMemberLaws.{stand_read}
use Rattle.mintc_corners.proofs.chain.members.Goals as goal

pub loop-number-preserved : goal.loop-number-preserved
loop-number-preserved c = (
  rw c.in_ok-push.ensures.items
      (stand_read c.args.systems.now c.args.chain.now c.loop-number.number-index c.loop-number.members.items c.in_ok-member.member c.loop-number-test.true c.loop-number.invariant.0 c.in_ok-member.ensures.member),
  c.in_ok-member.ensures.finders,
)

pub returns : goal.returns
returns c = grind (arith, common_steps)
