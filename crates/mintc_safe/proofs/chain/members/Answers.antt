use Rattle.std.proofs.Common.{get_or}
use Rattle.std.proofs.lemmas.List.{take_all}
use Rattle.std.proofs.lemmas.List.Elements.{Contains-get_or}
use Rattle.mintc_optimise.proofs.SharedStandingLaws.{stand_read}
use Rattle.mintc_safe.specs.Hold.{safe_links_of}
use Rattle.mintc_safe.specs.SafeOptimum.{bare}
use Rattle.mintc_safe.proofs.chain.members.Goals as goal

pub safe_member_of-requires-clause-link : goal.safe_member_of-requires-clause-link
safe_member_of-requires-clause-link c =
    rw c.requires.links
    (Contains-get_or (safe_links_of c.args.system.now) (get_or c.args.chain.now c.loop-number.number-index 0) _ (rw c.requires.links at c.requires.chain c.loop-number.number-index 0 c.loop-number-test.true))

pub loop-number-preserved : goal.loop-number-preserved
loop-number-preserved c =
    rw c.in_ok-push.ensures.items
    (stand_read bare c.args.links.now c.args.chain.now c.loop-number.number-index c.loop-number.members.items c.in_ok-member.member _ c.loop-number-test.true
    c.requires.chain c.loop-number.invariant c.in_ok-member.ensures)

pub returns : goal.returns
returns c = rw c.new-2.ensures (rw (take_all c.loop-number.number-index c.args.chain.now c.loop-number-test.false) at c.loop-number.invariant)
