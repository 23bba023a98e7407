use Rattle.mintc_checker.proofs.Deciding.{denied, alike}
use Rattle.mintc_checker.proofs.chain.are_ring.Goals as goal

pub returns-then-are_members-clause-ring : goal.returns-then-are_members-clause-ring
returns-then-are_members-clause-ring c = λ t e are_pairs.
    alike _ c.lead_round.ensures (λ closed. ((c.are_members.ensures.members t e are_pairs).0 c.if-are_members.true, rw e closed)) (λ ring. rw e at ring.1)

pub returns-else-are_members-clause-ring : goal.returns-else-are_members-clause-ring
returns-else-are_members-clause-ring c = λ t e are_pairs. denied c.are_members.result c.if-are_members.false (c.are_members.ensures.members t e are_pairs) (λ ring. ring.0)
