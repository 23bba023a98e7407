-- The clocks of a schedule as SDC, of the bytes of its files.
use Rattle.std.specs.Prelude.{◌≡◌, ◌≢◌, ◌⊎◌, ℕ, ◌<◌, ◌^◌, ℤ, pos, List, All, Bool, true, false}
use Rattle.std.specs.Prelude.{◌==◌, Option, Some, None, length, if◌then◌else◌}
use Rattle.mintc_fraction.specs.Ratio.{IsCeiling, over}
use Rattle.mintc_text.specs.Lines.{text_of}
use Rattle.mintc_text.specs.declared.limits.Most.{Most}
use Rattle.mintc_text.specs.declared.refusals.Refusal.{Refusal}
use Rattle.mintc_timing.specs.Design.{Design, Timing, phase_count}
use Rattle.mintc_timing.specs.Violations.{AreViolations}
use Rattle.mintc_timing.specs.declared.clocking.Schedule.{Schedule}
use Rattle.mintc_timing.specs.declared.violation.Broken.{Broken}
use Rattle.mintc_timing.specs.declared.violation.Broken.TheVariants as broken
use Rattle.mintc_timing.specs.declared.violation.Violation.{Violation}
use Rattle.mintc_certificate.specs.CertificateText.{IsCertificateText}
use Rattle.mintc_certificate.specs.declared.certificate.Certificate.{Certificate}
use Rattle.mintc_certificate.specs.declared.certificate.Certificate.TheVariants as certificate
use Rattle.mintc_certificate.specs.declared.members.Member.{Member}
use Rattle.mintc_checker.specs.Verdicts.{IsVerdict}
use Rattle.mintc_checker.specs.declared.verdict.Verdict.{Verdict}
use Rattle.mintc_checker.specs.declared.verdict.Verdict.TheVariants as verdict
use Rattle.mintc_clock.specs.ClockOf.{IsClock, IsClockRefusal}
use Rattle.mintc_clock.specs.declared.clock.Clock.{Clock}
use Rattle.mintc_command_answers.specs.Jobs.{IsScheduleOf}
use Rattle.mintc_command_answers.specs.Sources.{AreShort, file_at, own_file}
use Rattle.mintc_command_answers.specs.declared.command.Command.{Command}
use Rattle.mintc_command_answers.specs.declared.command.Command.TheVariants.{OfDesign}
use Rattle.mintc_command_answers.specs.declared.command.Job.{Job}
use Rattle.mintc_command_answers.specs.declared.command.Job.TheVariants.{Check, Verify}
use Rattle.mintc_command_answers.specs.declared.command.Source.{Source}
use Rattle.mintc_command_answers.specs.declared.command.Source.TheVariants as source
use Rattle.mintcx_cycles.specs.AtCycles.{IsRightAt, IsShortAt}
use Rattle.mintcx_frame.specs.declared.view.View.{View}
use Rattle.mintcx_sdc.specs.Named.{named_clock}
use Rattle.mintcx_sdc.specs.Obstacles.{obstacle_in}
use Rattle.mintcx_sdc.specs.Texts.{sdc_lines}
use Rattle.mintcx_sdc.specs.declared.text.Titles.{Titles}
use Rattle.mintcx_answers.specs.Answers.{IsFail, IsToldVerdict}
use Rattle.mintcx_answers.specs.Shown.{IsSystemFor}
use Rattle.mintcx_answers.specs.declared.clocks.Clocks.{Clocks}
use Rattle.mintcx_answers.specs.declared.clocks.Clocks.TheVariants.{Said, Unsaid, Denied}
use Rattle.mintcx_answers.specs.declared.clocks.Stated.{Stated}
use Rattle.mintcx_answers.specs.declared.clocks.Stated.TheVariants as stated

-- ---- what is told

-- the clocks of a schedule as SDC, or what of them SDC can't say
abbrev pub IsSaid : Clock → Schedule → Titles → Clocks → Type 0
IsSaid clock s titles (Said text) = (obstacle_in clock s ≡ None) × (text ≡ text_of (sdc_lines clock s titles))
IsSaid clock s titles (Unsaid obstacle) = obstacle_in clock s ≡ Some obstacle
IsSaid clock s titles (Denied text) = ⊥

-- no right schedule is there, and this is said of it
abbrev pub IsDenied : (List ℕ → Type 0) → Clocks → Type 0
IsDenied P (Denied text) = P text
IsDenied P told = ⊥

-- ---- a schedule of its own

-- a hold is broken
abbrev pub is_hold_broken : Broken → Bool
is_hold_broken (broken.Hold l) = true
is_hold_broken what = false

abbrev pub is_hold : Violation → Bool
is_hold v = is_hold_broken v.broken

-- holds alone are broken
abbrev pub AreHolds : List Violation → Type 0
AreHolds vs = All (λ v. is_hold v ≡ true) vs

-- The clocks of a schedule that is right but for holds, or the judgement of one that isn't.
abbrev pub IsOfSchedule : Timing → Clock → Schedule → Titles → View → Clocks → Type 0
IsOfSchedule t clock s titles view told =
    ((vs : List Violation) × AreViolations t s vs × AreHolds vs × IsSaid clock s titles told)
    ⊎ ((vs : List Violation) × AreViolations t s vs × (AreHolds vs → ⊥) × IsDenied (IsFail t s view) told)

-- ---- the schedule of a certificate

-- the schedule's cycle time in femtoseconds, rounded up
abbrev pub IsRoundedUp : Schedule → ℕ → Type 0
IsRoundedUp s cycle = IsCeiling (over s.cycle s.den) (pos 1) (pos cycle)

-- rounded up it is no number of 32 bits
abbrev pub IsBeyond : Schedule → Type 0
IsBeyond s = (up : ℤ) × IsCeiling (over s.cycle s.den) (pos 1) up
    × ((cycle : ℕ) → cycle < 2 ^ 32 → up ≢ pos cycle)

-- The earliest right schedule of the next whole femtosecond; or none, where the cycle time is whole, or beyond 32 bits,
-- or where some chain forbids the next.
abbrev pub IsRaised : Timing → Schedule → Option Schedule → Type 0
IsRaised t s (Some whole) = (s.den ≢ pos 1) × ((cycle : ℕ) × IsRoundedUp s cycle
    × ((departures : List ℤ) × IsRightAt t cycle whole departures))
IsRaised t s None = (s.den ≡ pos 1) ⊎ (IsBeyond s
    ⊎ ((cycle : ℕ) × IsRoundedUp s cycle × ((chain : List Member) × IsShortAt t cycle chain)))

-- the clocks of the schedule of a valid certificate, in whole femtoseconds where there are such
abbrev pub IsOfLeast : Timing → Clock → Schedule → Titles → Clocks → Type 0
IsOfLeast t clock s titles told = ((whole : Schedule) × IsRaised t s (Some whole) × IsSaid clock whole titles told)
    ⊎ (IsRaised t s None × IsSaid clock s titles told)

-- the clocks of a certificate by its verdict, or the text of the verdict on one that gives no right schedule
abbrev pub IsByVerdict : Timing → Clock → Certificate → Titles → View → Verdict → Clocks → Type 0
IsByVerdict t clock (certificate.Least s departures chain) titles view verdict.Valid told =
    IsOfLeast t clock s titles told
IsByVerdict t clock c titles view v told = IsDenied (IsToldVerdict t c titles.subject view v) told

-- The clocks of the schedule of a certificate.
abbrev pub IsOfCertificate : Timing → Clock → Certificate → Titles → View → Clocks → Type 0
IsOfCertificate t clock c titles view told = (v : Verdict) × IsVerdict t c v × IsByVerdict t clock c titles view v told

-- ---- the files

-- what reads the text that a schedule stands in
abbrev pub job_of : Stated → Job
job_of stated.Schedule = Check
job_of stated.Certificate = Verify

abbrev pub command_of : Stated → Source → Command
command_of stated from = OfDesign (job_of stated) from

-- the clocks of the schedule of a text
abbrev pub IsOfText : Most → Stated → Timing → Clock → List ℕ → Titles → View → Clocks → Type 0
IsOfText most stated.Schedule t clock file titles view told =
    (s : Schedule) × IsScheduleOf file (phase_count t.flat) s × IsOfSchedule t clock s titles view told
IsOfText most stated.Certificate t clock file titles view told =
    (c : Certificate) × IsCertificateText most.members file c × IsOfCertificate t clock c titles view told

-- what is read of the clock's description: its clock, or that it is refused; a table has none
abbrev pub IsReadIn : List ℕ → Option Clock → Type 0
IsReadIn text (Some clock) = IsClock text clock
IsReadIn text None = (refused : Refusal) × IsClockRefusal text refused

abbrev pub IsClockIn : Source → List (List ℕ) → Option Clock → Type 0
IsClockIn source.Table files read = read ≡ None
IsClockIn from files read = IsReadIn (file_at files 3) read

-- the clock that was read, or that of the names of a table's phases
abbrev pub IsChosen : Timing → Option Clock → Clock → Type 0
IsChosen t (Some read) clock = clock ≡ read
IsChosen t None clock = clock ≡ named_clock t.flat.phases

-- The clock of the design that files give.
abbrev pub IsClockOf : Source → List (List ℕ) → Timing → Clock → Type 0
IsClockOf source.Table files t clock = clock ≡ named_clock t.flat.phases
IsClockOf from files t clock = IsClock (file_at files 3) clock

-- a clock, where it has so many phases
abbrev pub of_phases : ℕ → Option Clock → Option Clock
of_phases count (Some clock) = if length clock.phases == count then Some clock else None
of_phases count None = None

-- The clock of the design that files give; or, beside a design at hand, that of their clock description, where it has
-- as many phases, and else that of the names of the design's phases.
abbrev pub IsClockFor : Option Design → Source → List (List ℕ) → Timing → Clock → Type 0
IsClockFor None from files t clock = IsClockOf from files t clock
IsClockFor (Some design) from files t clock = (read : Option Clock) × IsClockIn from files read
    × IsChosen t (of_phases (phase_count t.flat) read) clock

-- The clocks of the schedule of a text beside those of a design, none of them too long, and of the design at hand where
-- there is one.
abbrev pub IsOfFiles : Most → Option Design → Stated → Source → Titles → View → List (List ℕ) → Clocks → Type 0
IsOfFiles most shown stated from titles view files told = (t : Timing) × IsSystemFor most shown from files t
    × ((clock : Clock) × IsClockFor shown from files t clock
    × IsOfText most stated t clock (own_file from files) titles view told)

-- The clocks of a schedule as SDC, on the bytes of its files, of which none is refused, and of the design at hand where
-- there is one.
abbrev pub HasClocks : Most → Option Design → Stated → Source → Titles → View → List (List ℕ) → Clocks → Type 0
HasClocks most shown stated from titles view files told =
    AreShort most files × IsOfFiles most shown stated from titles view files told
