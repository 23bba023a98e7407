-- That the definitions of answers leave no timing and no file without one.
use Rattle.std.specs.Prelude.{◌≢◌, ℕ, ℤ, pos, ◌≤ℤ◌, List, ◌⊎◌}
use Rattle.mintc_text.specs.declared.limits.Most.{Most}
use Rattle.mintc_text.specs.declared.refusals.Refusal.{Refusal}
use Rattle.mintc_fraction.specs.Ratio.{Ratio}
use Rattle.mintc_timing.specs.declared.clocking.Schedule.{Schedule}
use Rattle.mintc_timing.specs.declared.violation.Violation.{Violation}
use Rattle.mintc_timing.specs.Design.{Design, Timing}
use Rattle.mintc_timing.specs.Limits.{IsDesign}
use Rattle.mintc_timing.specs.Order.{IsTiming}
use Rattle.mintc_timing.specs.Paths.{ArePairs}
use Rattle.mintc_certificate.specs.declared.certificate.Certificate.{Certificate}
use Rattle.mintc_certificate.specs.Ranges.{IsCertificateInRange}
use Rattle.mintc_checker.specs.declared.verdict.Verdict.{Verdict}
use Rattle.mintc_checker.specs.Verdicts.{IsVerdict}
use Rattle.mintc_report.specs.Answers.{IsFailText, IsLowestOf, IsPassText}
use Rattle.mintc_report.specs.Reports.{IsReportText}
use Rattle.mintc_report.specs.Summaries.{IsSummaryText}
use Rattle.mintc_command_answers.specs.Jobs.{IsFileRefused, IsJobAnswer, IsSummaryAnswer}
use Rattle.mintc_command_answers.specs.declared.command.Job.{Job}
use Rattle.mintc_command_answers.specs.declared.command.Job.TheVariants.{Check, Optimise, Report, Safe, Slack}
use Rattle.mintc_command_answers.specs.declared.command.Job.TheVariants.{Verify}
use Rattle.mintc_command_answers.specs.declared.status.Status.{Status}
use Rattle.mintc_command_answers.specs.declared.status.Status.TheVariants.{Refused}

-- Each fraction over a denominator of at least 1 has lowest terms.
abbrev pub FractionsHaveLowestTerms : Type 0
FractionsHaveLowestTerms = (num den : ℤ) → pos 1 ≤ℤ den → (lowest : Ratio) × IsLowestOf num den lowest

-- Departures have a text of a pass,
abbrev pub PassesHaveTexts : Type 0
PassesHaveTexts = (design : Design) (s : Schedule) (late early : List ℤ) → pos 1 ≤ℤ s.den →
    (text : List ℕ) × IsPassText design s late early text

-- and violations one of a fail.
abbrev pub FailsHaveTexts : Type 0
FailsHaveTexts = (t : Timing) (s : Schedule) (violations : List Violation) → pos 1 ≤ℤ s.den →
    (text : List ℕ) × IsFailText t s violations text

-- The file that stands beside the design's is refused, or the job has an answer on the timing and the file, of which
-- the status isn't that of a refusal.
abbrev pub HasAnswerOrRefusal : Most → Job → Timing → List ℕ → Type 0
HasAnswerOrRefusal most job t file = ((refused : Refusal) × IsFileRefused most job t.flat file refused)
    ⊎ ((status : Status) × (text : List ℕ) × (status ≢ Refused) × IsJobAnswer most job t file status text)

-- So it is of `check`, whatever the file is.
abbrev pub ChecksHaveAnswers : Type 0
ChecksHaveAnswers = (most : Most) (t : Timing) (file : List ℕ) → IsDesign t.flat → ArePairs t.flat t.pairs →
    HasAnswerOrRefusal most Check t file

-- Each certificate has a verdict on each timing: each of the tests passes or fails.
abbrev pub CertificatesHaveVerdicts : Type 0
CertificatesHaveVerdicts = (t : Timing) (c : Certificate) → (v : Verdict) × IsVerdict t c v

-- So `verify` has an answer, or the file is refused.
abbrev pub VerificationsHaveAnswers : Type 0
VerificationsHaveAnswers = (most : Most) (t : Timing) (file : List ℕ) → HasAnswerOrRefusal most Verify t file

-- On each system, and each file beside those of the design, a job has an answer, or the file is refused.
abbrev pub HasAnswers : Most → Job → Type 0
HasAnswers most job = (t : Timing) (file : List ℕ) → IsDesign t.flat → IsTiming t.flat t.order t.pairs →
    HasAnswerOrRefusal most job t file

-- A certificate that a text can say has a report in the names of each design,
abbrev pub ReportsHaveTexts : Type 0
ReportsHaveTexts = (design : Design) (c : Certificate) → IsCertificateInRange c →
    (text : List ℕ) × IsReportText design c text

-- and a summary under each number.
abbrev pub SummariesHaveTexts : Type 0
SummariesHaveTexts = (number : ℕ) (t : Timing) (c : Certificate) → IsCertificateInRange c →
    (text : List ℕ) × IsSummaryText number t c text

-- Each system has a summary under each number, of which the status isn't that of a refusal.
abbrev pub SystemsHaveSummaries : Type 0
SystemsHaveSummaries = (number : ℕ) (t : Timing) → IsDesign t.flat → IsTiming t.flat t.order t.pairs →
    (status : Status) × (text : List ℕ) × (status ≢ Refused) × IsSummaryAnswer number t status text

-- So `optimise`, `report` and `slack` have an answer on each system, or it has too many elements for `slack`.
abbrev pub OptimaHaveAnswers : Type 0
OptimaHaveAnswers = (most : Most) → HasAnswers most Optimise × HasAnswers most Report × HasAnswers most Slack

-- So has `safe`, on each system.
abbrev pub SafeOptimaHaveAnswers : Type 0
SafeOptimaHaveAnswers = (most : Most) → HasAnswers most Safe
