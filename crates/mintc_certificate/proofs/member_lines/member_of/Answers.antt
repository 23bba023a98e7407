use Rattle.std.proofs.Common.{arith}
use Rattle.std.proofs.lemmas.Grind.{common_steps}
use Rattle.mintc_certificate.proofs.MemberLaws.{all_words, first_with}
use Rattle.mintc_certificate.proofs.member_lines.member_of.Goals as goal

pub returns-in_default-member_word : goal.returns-in_default-member_word
returns-in_default-member_word c = λ m h. let none = c.in_default-member_word.ensures (first_with c.in-Some.first.now all_words) in grind arith

pub returns-in-Apart : goal.returns-in-Apart
returns-in-Apart c = let told = c.apart_of.ensures c.args.version in grind (arith, common_steps)
