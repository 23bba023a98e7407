use Rattle.std.proofs.Common.{arith, subst, sym}
use Rattle.std.specs.List.{All}
use Rattle.std.proofs.lemmas.List.{take_all}
use Rattle.std.proofs.lemmas.List.Elements.{All-more}
use Rattle.mintc_certificate.specs.declared.members.Member.{Member}
use Rattle.mintc_certificate.specs.Valid.{IsMember, IsNamed}
use Rattle.mintc_checker.proofs.Deciding.{denied, holds}
use Rattle.mintc_checker.proofs.chain.are_members.Goals as goal

pub loop-member-preserved : goal.loop-member-preserved
loop-member-preserved c =
    let more = λ (P : Member → Type 0). All-more P c.args.members.now c.loop-member.member-index c.member-item.result c.loop-member-test.true in
    record {
      named = more (IsNamed c.args.flat.now) c.loop-member.invariant.named (subst (IsNamed c.args.flat.now) c.member-item.is c.if-not-is_member.ensures.named);
      members_so_far = λ t e are_pairs.
          more (IsMember t) (c.loop-member.invariant.members_so_far t e are_pairs) (subst (IsMember t) c.member-item.is ((c.is_member.ensures.member t e are_pairs).0 c.if-not-is_member.false));
    }

pub returns-then-not-is_member-clause-members : goal.returns-then-not-is_member-clause-members
returns-then-not-is_member-clause-members c = λ t e are_pairs.
    rw c.if-not-is_member.true at
    (denied _ c.if-not-is_member.true (c.is_member.ensures.member t e are_pairs) (λ (all : All (IsMember t) c.args.members.now). subst (IsMember t) (sym c.member-item.is) (all c.loop-member.member-index c.member-item.result c.loop-member-test.true)))

pub returns-clause-named : goal.returns-clause-named
returns-clause-named c = rw (take_all c.loop-member.member-index c.args.members.now (omega arith)) at c.loop-member.invariant.named

pub returns-clause-members : goal.returns-clause-members
returns-clause-members c = λ t e are_pairs. holds (rw (take_all c.loop-member.member-index c.args.members.now (omega arith)) at (c.loop-member.invariant.members_so_far t e are_pairs))
