use Rattle.std.proofs.Common.{refl, arith}
use Rattle.std.proofs.lemmas.Grind.{common_steps}
use Rattle.mintc_certificate.specs.CertificateReading.{with_chain}
use Rattle.mintc_certificate.specs.CertificateText.{whole}
use Rattle.mintc_timing_text.proofs.SharedReadingLaws.{at_end, at_fault, at_more, at_past}
use Rattle.mintc_certificate.proofs.reading.chain.Goals as goal

pub returns-in_err-chain : goal.returns-in_err-chain
returns-in_err-chain c = λ text d at. let told = c.in_err-chain.ensures text d at in grind (arith, common_steps)

pub returns-in_default : goal.returns-in_default
returns-in_default c = λ text d at.
    at_fault (c.in_ok-chain.ensures text d at) c.in_default.ensures.read c.in_default.ensures.counted (λ e. e) (λ line after step. (step.0, step.1))

pub returns-in_default-end : goal.returns-in_default-end
returns-in_default-end c = λ text d at.
    let ended = at_more c.word_line.new.self (whole (with_chain d c.in_ok-chain.chain)) (c.in_ok-chain.ensures text d at) c.in-Some.ensures.read c.in-Some.ensures.counted (λ line spells. (_, spells, refl)) in
    at_past ended c.in_default-end.ensures.read c.in_default-end.ensures.counted (λ line after step. step)

pub returns : goal.returns
returns c = λ text d at.
    let ended = at_more c.word_line.new.self (whole (with_chain d c.in_ok-chain.chain)) (c.in_ok-chain.ensures text d at) c.in-Some.ensures.read c.in-Some.ensures.counted (λ line spells. (_, spells, refl)) in
    at_end ended c.in-Some-end.ensures.read
