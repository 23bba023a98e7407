use Rattle.std.proofs.Common.{if◌then◌else◌, refl}
use Rattle.mintc_timing_text.specs.Texts.{den}
use Rattle.mintc_certificate.specs.CertificateText.{outcome, scheduled, never, version_of}
use Rattle.mintc_timing_text.proofs.SharedReadingLaws.{at_fault, at_more}
use Rattle.mintc_certificate.proofs.reading.certificate.Goals as goal

pub returns-in_default : goal.returns-in_default
returns-in_default c = λ text at.
    at_fault at c.in_default.ensures.read c.in_default.ensures.counted (λ e. e) (λ line after step. (step.0, step.1))

pub returns-in_default-outcome_line : goal.returns-in_default-outcome_line
returns-in_default-outcome_line c = λ text at.
    let one = at_more c.count_line.new.self (outcome (version_of c.in-Some.number)) at c.in-Some.ensures.read c.in-Some.ensures.counted (λ line spells. (_, spells, refl)) in
    at_fault one c.in_default-outcome_line.ensures.read c.in_default-outcome_line.ensures.counted (λ e. e) (λ line after step. (step.0, step.1))

pub returns-then-has_schedule : goal.returns-then-has_schedule
returns-then-has_schedule c = λ text at.
    let one = at_more c.count_line.new.self (outcome (version_of c.in-Some.number)) at c.in-Some.ensures.read c.in-Some.ensures.counted (λ line spells. (_, spells, refl)) in
    let two = at_more c.outcome_line.new.reader (if c.in-Some-outcome_line.has_schedule then scheduled (version_of c.in-Some.number) den else never (version_of c.in-Some.number)) one c.in-Some-outcome_line.ensures.read c.in-Some-outcome_line.ensures.counted (λ line spells. (_, spells, refl)) in
    c.least.ensures text (rw c.version_of-version.ensures (rw c.if-has_schedule.true at two))

pub returns-else-has_schedule : goal.returns-else-has_schedule
returns-else-has_schedule c = λ text at.
    let one = at_more c.count_line.new.self (outcome (version_of c.in-Some.number)) at c.in-Some.ensures.read c.in-Some.ensures.counted (λ line spells. (_, spells, refl)) in
    let two = at_more c.outcome_line.new.reader (if c.in-Some-outcome_line.has_schedule then scheduled (version_of c.in-Some.number) den else never (version_of c.in-Some.number)) one c.in-Some-outcome_line.ensures.read c.in-Some-outcome_line.ensures.counted (λ line spells. (_, spells, refl)) in
    c.never.ensures text (rw c.version_of-version.ensures (rw c.if-has_schedule.false at two))
