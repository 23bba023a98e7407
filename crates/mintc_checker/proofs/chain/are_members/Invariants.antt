use Rattle.std.proofs.Common.{take}
use Rattle.std.specs.List.{All}
use Rattle.mintc_certificate.specs.Valid.{IsMember, IsNamed}
use Rattle.mintc_checker.specs.Decided.{OfTiming}
use Rattle.mintc_checker.proofs.chain.are_members.Given as goal

-- the members so far are the design's
abbrev pub invariant-loop-member : goal.invariant-loop-member
invariant-loop-member l = record {
  named : All (IsNamed l.flat) (take l.member-index l.members);
  members_so_far : OfTiming l.flat (λ t. All (IsMember t) (take l.member-index l.members));
}
