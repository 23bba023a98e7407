use Rattle.mintc_certificate.proofs.MemberLaws.{AreFound}
use Rattle.mintc_certificate.proofs.member_lines.numbers.Given as goal

-- the numbers so far
abbrev pub invariant-loop-number : goal.invariant-loop-number
invariant-loop-number l = AreFound l._number l.found.items l.fn.fields l.fields
