use Rattle.std.proofs.Common.{arith, ℕ}
use Rattle.std.proofs.lemmas.Grind.{common_steps}
use Rattle.mintc_certificate.specs.MemberWords.{IsTwo}
use Rattle.mintc_certificate.proofs.member_lines.apart_of.Goals as goal

pub returns-in_err-i : goal.returns-in_err-i
returns-in_err-i c = let none : (i j : ℕ) → IsTwo (i, j) c.args.fields → ⊥ = λ i j. c.in_err-i.ensures (i, j) in grind (arith, common_steps, none)
