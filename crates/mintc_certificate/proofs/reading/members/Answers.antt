use Rattle.std.proofs.Common.{arith}
use Rattle.std.proofs.lemmas.Grind.{common_steps}
use Rattle.mintc_timing_text.proofs.SharedReadingLaws.{list_more, list_fault, list_all}
use Rattle.mintc_certificate.specs.CertificateText.{IsCertificateFault, IsMemberLine}
use Rattle.mintc_certificate.proofs.CertificateReading.{chain_read, chain_fault, member_states, member_next}
use Rattle.mintc_certificate.proofs.MemberLaws.{halts_by}
use Rattle.mintc_certificate.proofs.reading.members.Goals as goal

pub returns-in_default : goal.returns-in_default
returns-in_default c = λ text d at.
    chain_fault c.args.limits.now.members text c.args.reader.now c.chain_line.new.reader.number c.args.version d at c.in_default.ensures.read c.in_default.ensures.counted

pub returns-in_err-member : goal.returns-in_err-member
returns-in_err-member c = λ text d at.
    let begun = chain_read c.args.limits.now.members text c.args.reader.now c.chain_line.new.reader c.args.version d c.in-Some.count at c.in-Some.ensures.read c.in-Some.ensures.counted in
    let told = halts_by {B = IsCertificateFault c.args.limits.now.members text c.member_line.new.reader.number}
    (λ none. list_fault (member_states c.args.version d) (IsMemberLine c.args.version) text c.loop-member.reader c.member_line.new.reader.number c.loop-member.found.items c.loop-member._member c.in-Some.count
    (c.loop-member.invariant text d begun) (omega arith) none c.in_err-member.ensures.counted (λ left all e. e) (λ left all line after step. (step.0, step.1))) c.in_err-member.field-0.0 c.in_err-member.ensures.read in
    grind (arith, common_steps)

pub loop-member-preserved : goal.loop-member-preserved
loop-member-preserved c = λ text d at.
    list_more (member_states c.args.version d) (IsMemberLine c.args.version) text c.loop-member.reader c.member_line.new.reader c.loop-member.found.items c.push.new.self.items c.loop-member._member c.in-Some.count c.in_ok-member.member
    (c.loop-member.invariant text d at) (omega arith) c.in_ok-member.ensures.read c.in_ok-member.ensures.counted c.in_ok-push.ensures.items (member_next c.args.limits.now.members c.args.version d c.in_ok-member.member)

pub returns : goal.returns
returns c = λ text d at.
    let begun = chain_read c.args.limits.now.members text c.args.reader.now c.chain_line.new.reader c.args.version d c.in-Some.count at c.in-Some.ensures.read c.in-Some.ensures.counted in
    rw c.new.ensures
    (list_all (member_states c.args.version d) text c.loop-member.reader c.loop-member.found.items c.loop-member._member c.in-Some.count (c.loop-member.invariant text d begun) (omega arith))
