-- What is free in the answers to a command: which chain shows an optimum, which loop data comes later on, and which
-- arcs lead round in a design that is refused.
use Rattle.std.specs.Prelude.{◌≡◌, ℕ, List, ◌++◌, ◌⊎◌}
use Rattle.mintc_text.specs.declared.limits.Most.{Most}
use Rattle.mintc_text.specs.declared.refusals.Refusal.{Refusal}
use Rattle.mintc_text.specs.declared.refusals.Refusal.TheVariants as refusal
use Rattle.mintc_text.specs.Lines.{text_of}
use Rattle.mintc_text.specs.Refusals.{refusal_line}
use Rattle.mintc_timing.specs.declared.clocking.Schedule.{Schedule}
use Rattle.mintc_timing.specs.declared.violation.Violation.{Violation}
use Rattle.mintc_timing.specs.Design.{Design, Timing}
use Rattle.mintc_timing.specs.Violations.{EndInLoop}
use Rattle.mintc_certificate.specs.declared.certificate.Certificate.{Certificate}
use Rattle.mintc_certificate.specs.Written.{lines_of}
use Rattle.mintc_safe.specs.declared.certificate.SafeCertificate.{SafeCertificate}
use Rattle.mintc_safe.specs.SafeText.{safe_lines}
use Rattle.mintc_report.specs.Answers.{IsFailText}
use Rattle.mintc_report.specs.Reports.{IsReportText}
use Rattle.mintc_build.specs.Laws.{IsLoopRefusal}
use Rattle.mintc_command_answers.specs.Answers.{IsDefined}
use Rattle.mintc_command_answers.specs.Optima.{DifferInChain, SafeDifferInChain}
use Rattle.mintc_command_answers.specs.declared.command.Command.TheVariants.{OfDesign, Sample, Corners}
use Rattle.mintc_command_answers.specs.declared.command.Job.{Job}
use Rattle.mintc_command_answers.specs.declared.command.Job.TheVariants.{Check, Optimise, Verify, Report, Safe, Slack}
use Rattle.mintc_command_answers.specs.declared.command.Source.{Source}
use Rattle.mintc_command_answers.specs.declared.status.Status.{Status}
use Rattle.mintc_command_answers.specs.declared.status.Status.TheVariants.{Refused}

-- The texts are those of two certificates with one schedule and the same departures, or of two without a schedule.
abbrev pub DifferInChains : List ℕ → List ℕ → Type 0
DifferInChains text another = (c : Certificate) × (d : Certificate) × DifferInChain c d × (text ≡ text_of (lines_of c))
    × (another ≡ text_of (lines_of d))

-- The texts are the reports of two such certificates in the names of one design.
abbrev pub AreReportsOfChains : List ℕ → List ℕ → Type 0
AreReportsOfChains text another = (design : Design) × (c : Certificate) × (d : Certificate) × DifferInChain c d
    × IsReportText design c text × IsReportText design d another

-- The texts are those of two such certificates that keep each hold.
abbrev pub DifferInSafeChains : List ℕ → List ℕ → Type 0
DifferInSafeChains text another = (c : SafeCertificate) × (d : SafeCertificate) × SafeDifferInChain c d
    × (text ≡ text_of (safe_lines c)) × (another ≡ text_of (safe_lines d))

-- The texts are fails of one schedule, each with all that it breaks of the clock and the bounds, and then a loop.
abbrev pub AreFailsOfLoops : List ℕ → List ℕ → Type 0
AreFailsOfLoops text another = (t : Timing) × (s : Schedule) × (vs : List Violation) × (ws : List Violation)
    × EndInLoop t s vs × EndInLoop t s ws × IsFailText t s vs text × IsFailText t s ws another

-- The refusals are one, or each names arcs that lead round.
abbrev pub DifferInArcs : Refusal → Refusal → Type 0
DifferInArcs refused other = (refused ≡ other) ⊎ (IsLoopRefusal refused × IsLoopRefusal other)

-- The texts are the lines of two such refusals.
abbrev pub AreLinesOfArcs : List ℕ → List ℕ → Type 0
AreLinesOfArcs text another = (refused : Refusal) × (other : Refusal) × DifferInArcs refused other
    × (text ≡ refusal_line refused) × (another ≡ refusal_line other)

-- The texts name one corner, and then hold the lines of two such refusals.
abbrev pub AreCornersOfArcs : List ℕ → List ℕ → Type 0
AreCornersOfArcs text another = (corner : ℕ) × (own : Refusal) × (other : Refusal) × DifferInArcs own other
    × (text ≡ refusal_line (refusal.Corner corner) ++ refusal_line own)
    × (another ≡ refusal_line (refusal.Corner corner) ++ refusal_line other)

-- What two answers to a job on one design share: all, but for the loop of a fail and the chain of an optimum.
abbrev pub AreSameButFree : Job → List ℕ → List ℕ → Type 0
AreSameButFree Check text another = (text ≡ another) ⊎ AreFailsOfLoops text another
AreSameButFree Optimise text another = DifferInChains text another
AreSameButFree Verify text another = text ≡ another
AreSameButFree Report text another = AreReportsOfChains text another
AreSameButFree Safe text another = DifferInSafeChains text another
AreSameButFree Slack text another = text ≡ another

-- The same where the files may be refused.
abbrev pub AreSameAnswers : Job → Status → List ℕ → List ℕ → Type 0
AreSameAnswers job Refused text another = AreLinesOfArcs text another
AreSameAnswers job status text another = AreSameButFree job text another

-- The answers to a job on the same files have one status, and are the same but for what is free.
abbrev pub JobAnswersAreTheSame : Type 0
JobAnswersAreTheSame = (most : Most) (job : Job) (from : Source) (files : List (List ℕ)) (status other : Status)
    (text another : List ℕ) → IsDefined most (OfDesign job from) files status text →
    IsDefined most (OfDesign job from) files other another → (status ≡ other) × AreSameAnswers job status text another

-- The text of a summary is determined, but for the arcs of a refusal.
abbrev pub AreSameSummaries : Status → List ℕ → List ℕ → Type 0
AreSameSummaries Refused text another = AreLinesOfArcs text another
AreSameSummaries status text another = text ≡ another

-- So the answers to a sample of one number have one status, and are the same.
abbrev pub SummariesAreTheSame : Type 0
SummariesAreTheSame = (most : Most) (number : ℕ) (files : List (List ℕ)) (status other : Status)
    (text another : List ℕ) → IsDefined most (Sample number) files status text →
    IsDefined most (Sample number) files other another → (status ≡ other) × AreSameSummaries status text another

-- Where corners are refused, the lines are the same but for the arcs that a corner's own line names.
abbrev pub CornerRefusalsAreTheSame : Type 0
CornerRefusalsAreTheSame = (most : Most) (count : ℕ) (files : List (List ℕ)) (text another : List ℕ) →
    IsDefined most (Corners count) files Refused text → IsDefined most (Corners count) files Refused another →
    (text ≡ another) ⊎ AreCornersOfArcs text another
