use Rattle.std.proofs.Common.{arith}
use Rattle.mintc_certificate.proofs.member_lines.single_of.Goals as goal

pub returns-then-not-has : goal.returns-then-not-has
returns-then-not-has c = λ m h. let none = c.if-not-has.ensures 0 in grind arith
