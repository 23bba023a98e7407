use Rattle.std.proofs.Common.{[], arith}
use Rattle.std.proofs.lemmas.Grind.{common_steps}
use Rattle.mintc_timing_text.proofs.SharedScheduleReading.{schedule_read, schedule_fault}
use Rattle.mintc_certificate.specs.declared.certificate.Certificate.TheVariants.{Least}
use Rattle.mintc_certificate.specs.CertificateText.{scheduled, IsDeparturesLine}
use Rattle.mintc_certificate.proofs.reading.least.Goals as goal

pub returns-in_default : goal.returns-in_default
returns-in_default c = λ text at. schedule_fault (scheduled c.args.version) (IsDeparturesLine c.args.version) (λ l line b h. h) (λ l line b h. h) (λ l e. e) at c.in_default.ensures

pub returns-in_err-departures : goal.returns-in_err-departures
returns-in_err-departures c = λ text at.
    let told = c.in_err-departures.ensures text c.args.limits.now.members c.in-Some.schedule (schedule_read (scheduled c.args.version) (IsDeparturesLine c.args.version) (λ l line b h. h) at c.in-Some.ensures) in
    grind (arith, common_steps)

pub returns-in_err-chain : goal.returns-in_err-chain
returns-in_err-chain c = λ text at.
    let departures = c.in_ok-departures.ensures text c.args.limits.now.members c.in-Some.schedule (schedule_read (scheduled c.args.version) (IsDeparturesLine c.args.version) (λ l line b h. h) at c.in-Some.ensures) in
    let told = c.in_err-chain.ensures text (Least c.in-Some.schedule c.in_ok-departures.departures []) departures in
    grind (arith, common_steps)

pub returns : goal.returns
returns c = λ text at.
    let departures = c.in_ok-departures.ensures text c.args.limits.now.members c.in-Some.schedule (schedule_read (scheduled c.args.version) (IsDeparturesLine c.args.version) (λ l line b h. h) at c.in-Some.ensures) in
    c.in_ok-chain.ensures text (Least c.in-Some.schedule c.in_ok-departures.departures []) departures
