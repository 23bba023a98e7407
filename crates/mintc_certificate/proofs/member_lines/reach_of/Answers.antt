use Rattle.std.proofs.Common.{arith}
use Rattle.std.proofs.lemmas.Grind.{common_steps}
use Rattle.mintc_certificate.proofs.MemberLaws.{reach_none, halts_by}
use Rattle.mintc_certificate.proofs.member_lines.reach_of.Goals as goal

pub returns-in_err-arcs : goal.returns-in_err-arcs
returns-in_err-arcs c = λ v.
    let read = c.in-Some.ensures in
    let told = halts_by (reach_none v c.args.fields c.in-Some.from c.in-Some.to c.in-Some.count c.ends.new.fields read.2 read.4) c.in_err-arcs.field-0.0 c.in_err-arcs.ensures in
    grind (arith, common_steps)
