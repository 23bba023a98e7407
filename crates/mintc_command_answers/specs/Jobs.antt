-- What is answered of a design: to each job a status and a text, or a refusal of the file that stands beside the
-- design's.
use Rattle.std.specs.Prelude.{◌≡◌, ◌≢◌, ◌<◌, ◌≤◌, ◌+◌, ℕ, ℤ, List, [], length}
use Rattle.mintc_text.specs.declared.limits.Most.{Most}
use Rattle.mintc_text.specs.Lines.{text_of}
use Rattle.mintc_text.specs.declared.refusals.Refusal.{Refusal}
use Rattle.mintc_text.specs.declared.refusals.Refusal.TheVariants as refusal
use Rattle.mintc_text.specs.declared.refusals.Kind.TheVariants as kind
use Rattle.mintc_text.specs.declared.refusals.Role.TheVariants as role
use Rattle.mintc_timing.specs.declared.clocking.Schedule.{Schedule}
use Rattle.mintc_timing.specs.declared.violation.Violation.{Violation}
use Rattle.mintc_timing.specs.Design.{Design, Timing, element_count, phase_count}
use Rattle.mintc_timing.specs.Departures.{AreLate, AreEarly}
use Rattle.mintc_timing.specs.Violations.{AreViolations}
use Rattle.mintc_timing_text.specs.Texts.{IsScheduleText, IsScheduleFault}
use Rattle.mintc_certificate.specs.declared.certificate.Certificate.{Certificate}
use Rattle.mintc_certificate.specs.declared.certificate.Certificate.TheVariants.{Least, Never}
use Rattle.mintc_certificate.specs.CertificateText.{IsCertificateText, IsCertificateRefusal}
use Rattle.mintc_certificate.specs.Optimal.{IsOptimal}
use Rattle.mintc_certificate.specs.Ranges.{IsCertificateInRange}
use Rattle.mintc_certificate.specs.Valid.{IsValid, chain_of}
use Rattle.mintc_certificate.specs.Written.{lines_of}
use Rattle.mintc_checker.specs.declared.verdict.Verdict.{Verdict}
use Rattle.mintc_checker.specs.declared.verdict.Verdict.TheVariants.{Valid, Invalid}
use Rattle.mintc_checker.specs.Verdicts.{IsVerdict}
use Rattle.mintc_optimise.specs.Optimum.{HasEarliest, HasSimple}
use Rattle.mintc_report.specs.Answers.{IsPassText, IsFailText}
use Rattle.mintc_report.specs.Reports.{IsReportText, verdict_text_of}
use Rattle.mintc_report.specs.Summaries.{IsSummaryText}
use Rattle.mintc_safe.specs.declared.certificate.SafeCertificate.{SafeCertificate}
use Rattle.mintc_safe.specs.declared.certificate.SafeCertificate.TheVariants as kept
use Rattle.mintc_safe.specs.SafeOptimum.{IsSafeOptimum}
use Rattle.mintc_safe.specs.SafeText.{safe_lines}
use Rattle.mintc_slack.specs.declared.finding.Slacks.{Slacks}
use Rattle.mintc_slack.specs.declared.finding.Slacks.TheVariants as slacks
use Rattle.mintc_slack.specs.Answers.{IsSlackAnswer}
use Rattle.mintc_slack.specs.SlackText.{slack_lines}
use Rattle.mintc_command_answers.specs.declared.command.Job.{Job}
use Rattle.mintc_command_answers.specs.declared.command.Job.TheVariants.{Check, Optimise, Verify, Report, Safe, Slack}
use Rattle.mintc_command_answers.specs.declared.status.Status.{Status}
use Rattle.mintc_command_answers.specs.declared.status.Status.TheVariants.{Done, Found}

-- The text is that of a schedule with so many phases.
pub record IsScheduleOf (text : List ℕ) (phases : ℕ) (s : Schedule) : Type 0 where
  pub is_text : IsScheduleText text s
  pub count : length s.starts ≡ phases

-- The text is out of form, or its schedule has another number of phases.
pub data IsScheduleRefused (text : List ℕ) (phases : ℕ) (refused : Refusal) : Type 0 where
  out_of_form : (n : ℕ) → refused ≡ refusal.Syntax role.Schedule n → IsScheduleFault text n →
      IsScheduleRefused text phases refused
  other_phases : (s : Schedule) → IsScheduleText text s → phases ≢ length s.starts →
      refused ≡ refusal.PhaseMismatch phases (length s.starts) → IsScheduleRefused text phases refused

-- The judgement of a schedule: a pass with its late and early departures where it has no violation, and else a fail
-- with all its violations.
abbrev pub IsJudgement : Timing → Schedule → Status → List ℕ → Type 0
IsJudgement t s Done text =
    (late : List ℤ) × (early : List ℤ) × AreViolations t s [] × AreLate t s late × AreEarly t s early
    × IsPassText t.flat s late early text
IsJudgement t s Found text = (violations : List Violation) × AreViolations t s violations × (violations ≢ [])
    × IsFailText t s violations text
IsJudgement t s status text = ⊥

-- The certificate is valid; it has the least cycle time, with a right schedule of it that is the earliest, or it
-- shows that no schedule is right.
pub record IsOptimum (t : Timing) (certificate : Certificate) : Type 0 where
  pub valid : IsValid t certificate
  pub optimal : IsOptimal t certificate
  pub earliest : HasEarliest t certificate
  pub simple : HasSimple t certificate
  pub in_range : IsCertificateInRange certificate
  pub short : length (chain_of certificate) ≤ element_count t.flat + 17

-- how a run ends that has this certificate
abbrev pub certificate_status : Certificate → Status
certificate_status (Least schedule departures chain) = Done
certificate_status (Never chain) = Found

-- how a run ends that has this verdict
abbrev pub verdict_status : Verdict → Status
verdict_status Valid = Done
verdict_status (Invalid n) = Found

-- how a run ends that has this safe certificate
abbrev pub safe_status : SafeCertificate → Status
safe_status (kept.Least schedule departures chain) = Done
safe_status (kept.Never chain) = Found

-- how a run ends that has these slacks
abbrev pub slack_status : Slacks → Status
slack_status (slacks.Least cycle extra) = Done
slack_status slacks.Never = Found

-- The answer of `optimise`: the text of an optimum.
abbrev pub IsOptimumAnswer : Timing → Status → List ℕ → Type 0
IsOptimumAnswer t status text = (c : Certificate) × IsOptimum t c × (status ≡ certificate_status c)
    × (text ≡ text_of (lines_of c))

-- The answer of `report`: the report of an optimum.
abbrev pub IsReportAnswer : Timing → Status → List ℕ → Type 0
IsReportAnswer t status text = (c : Certificate) × IsOptimum t c × (status ≡ certificate_status c)
    × IsReportText t.flat c text

-- The answer of `sample`: the summary of an optimum.
abbrev pub IsSummaryAnswer : ℕ → Timing → Status → List ℕ → Type 0
IsSummaryAnswer number t status text = (c : Certificate) × IsOptimum t c × (status ≡ certificate_status c)
    × IsSummaryText number t c text

-- The answer of `safe`: the text of an optimum that keeps each hold.
abbrev pub IsSafeJobAnswer : Timing → Status → List ℕ → Type 0
IsSafeJobAnswer t status text = (c : SafeCertificate) × IsSafeOptimum t c × (status ≡ safe_status c)
    × (text ≡ text_of (safe_lines c))

-- The answer of `slack`: the text of the slacks at the least cycle.
abbrev pub IsSlackJobAnswer : Timing → Status → List ℕ → Type 0
IsSlackJobAnswer t status text = (x : Slacks) × IsSlackAnswer t x × (status ≡ slack_status x)
    × (text ≡ text_of (slack_lines t x))

-- The answer of `verify`: the verdict on a certificate.
abbrev pub IsVerdictAnswer : Timing → Certificate → Status → List ℕ → Type 0
IsVerdictAnswer t c status text = (v : Verdict) × IsVerdict t c v × (status ≡ verdict_status v)
    × (text ≡ verdict_text_of v)

-- The answer to a job on a design, and on the text of the file that stands beside the design's.
abbrev pub IsJobAnswer : Most → Job → Timing → List ℕ → Status → List ℕ → Type 0
IsJobAnswer most Check t file status text = (s : Schedule) × IsScheduleOf file (phase_count t.flat) s
    × IsJudgement t s status text
IsJobAnswer most Optimise t file status text = IsOptimumAnswer t status text
IsJobAnswer most Verify t file status text = (c : Certificate) × IsCertificateText most.members file c
    × IsVerdictAnswer t c status text
IsJobAnswer most Report t file status text = IsReportAnswer t status text
IsJobAnswer most Safe t file status text = IsSafeJobAnswer t status text
IsJobAnswer most Slack t file status text = (element_count t.flat ≤ most.slack) × IsSlackJobAnswer t status text

-- Why the file that stands beside the design's is refused; and a design that has more elements than slacks are found
-- for.
abbrev pub IsFileRefused : Most → Job → Design → List ℕ → Refusal → Type 0
IsFileRefused most Check design file refused = IsScheduleRefused file (phase_count design) refused
IsFileRefused most Optimise design file refused = ⊥
IsFileRefused most Verify design file refused = IsCertificateRefusal most.members file refused
IsFileRefused most Report design file refused = ⊥
IsFileRefused most Safe design file refused = ⊥
IsFileRefused most Slack design file refused = (most.slack < length design.elements)
    × (refused ≡ refusal.Limit kind.Elements (length design.elements))
