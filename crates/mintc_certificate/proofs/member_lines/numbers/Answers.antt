use Rattle.std.proofs.lemmas.Grind.{common_steps}
use Rattle.std.proofs.Common.{arith}
use Rattle.mintc_certificate.proofs.MemberLaws.{numbers_none}
use Rattle.mintc_certificate.proofs.member_lines.numbers.Goals as goal

pub returns-in_default : goal.returns-in_default
returns-in_default c = numbers_none c.loop-number._number c.args.count c.loop-number.found.items c.args.fields c.loop-number.fields c.loop-number.invariant (omega arith) c.in_default.ensures

pub loop-number-preserved : goal.loop-number-preserved
loop-number-preserved c = grind (arith, common_steps)

pub returns-in_default-end : goal.returns-in_default-end
returns-in_default-end c = grind (arith, common_steps)
