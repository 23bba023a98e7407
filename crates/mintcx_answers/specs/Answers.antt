-- What is answered for people to a command on the bytes of its files: mintc's status, and a text of what is found.
use Rattle.std.specs.Prelude.{◌≡◌, ◌≢◌, ◌≤◌, ◌⊎◌, ℤ, pos, ℕ, List, [], length, slice_index_or}
use Rattle.std.specs.Bool.{OnFalse, OnTrue}
use Rattle.std.specs.Prelude.{Bool, true, false, ◌==◌, ◌||◌, Option, Some, None, codes}
use Rattle.std.specs.List.{AllZip}
use Rattle.mintc_fraction.specs.Ratio.{Ratio, over}
use Rattle.mintc_text.specs.Lines.{text_of}
use Rattle.mintc_text.specs.declared.limits.Most.{Most}
use Rattle.mintc_timing.specs.Departures.{AreEarly, AreExact, AreLate}
use Rattle.mintc_timing.specs.Design.{Design, Timing, element_count, phase_count}
use Rattle.mintc_timing.specs.Violations.{AreViolations}
use Rattle.mintc_timing.specs.declared.clocking.Schedule.{Schedule}
use Rattle.mintc_timing.specs.declared.violation.Violation.{Violation}
use Rattle.mintc_timing_text.specs.LineForms.{schedule_text_lines}
use Rattle.mintc_certificate.specs.CertificateText.{IsCertificateText}
use Rattle.mintc_certificate.specs.declared.certificate.Certificate.{Certificate}
use Rattle.mintc_certificate.specs.declared.certificate.Certificate.TheVariants as certificate
use Rattle.mintc_certificate.specs.Written.{lines_of}
use Rattle.mintc_checker.specs.Verdicts.{IsVerdict}
use Rattle.mintc_checker.specs.declared.verdict.Verdict.{Verdict}
use Rattle.mintc_checker.specs.declared.verdict.Verdict.TheVariants as verdict
use Rattle.mintc_safe.specs.SafeOptimum.{IsSafeOptimum}
use Rattle.mintc_safe.specs.declared.certificate.SafeCertificate.{SafeCertificate}
use Rattle.mintc_slack.specs.Answers.{IsSlackAnswer}
use Rattle.mintc_slack.specs.declared.finding.Slacks.{Slacks}
use Rattle.mintc_corners.specs.CornerOptimum.{IsOptimumOf}
use Rattle.mintc_corners.specs.declared.certificate.CornerCertificate.{CornerCertificate}
use Rattle.mintc_command_answers.specs.Corners.{AreGiven, corner_status, corners_of, elements_together}
use Rattle.mintc_command_answers.specs.Jobs.{IsOptimum, IsScheduleOf, certificate_status, safe_status, slack_status}
use Rattle.mintc_command_answers.specs.Jobs.{verdict_status}
use Rattle.mintc_command_answers.specs.Sources.{AreShort, own_file}
use Rattle.mintc_command_answers.specs.declared.command.Command.{Command}
use Rattle.mintc_command_answers.specs.declared.command.Command.TheVariants.{OfDesign, Sample, Corners}
use Rattle.mintc_command_answers.specs.declared.command.Job.{Job}
use Rattle.mintc_command_answers.specs.declared.command.Job.TheVariants.{Check, Optimise, Verify, Report, Safe, Slack}
use Rattle.mintc_command_answers.specs.declared.command.Source.{Source}
use Rattle.mintc_command_answers.specs.declared.status.Status.{Status}
use Rattle.mintc_command_answers.specs.declared.status.Status.TheVariants.{Done, Found}
use Rattle.mintcx_csv.specs.Chains.{IsOptimumTable}
use Rattle.mintcx_csv.specs.Corners.{IsCornersTable}
use Rattle.mintcx_csv.specs.Cycles.{IsCycleTable}
use Rattle.mintcx_csv.specs.Passes.{IsPassTable}
use Rattle.mintcx_csv.specs.Safe.{IsSafeTable}
use Rattle.mintcx_csv.specs.Slacks.{IsSlackTable}
use Rattle.mintcx_csv.specs.Verdicts.{IsVerdictTable}
use Rattle.mintcx_csv.specs.Violations.{IsFailTable}
use Rattle.mintcx_frame.specs.declared.view.View.{View}
use Rattle.mintcx_json.specs.Corners.{IsCornersObject}
use Rattle.mintcx_json.specs.Cycles.{IsCycleObject}
use Rattle.mintcx_json.specs.Judgements.{IsFailObject, IsPassObject}
use Rattle.mintcx_json.specs.Optimum.{IsOptimumObject}
use Rattle.mintcx_json.specs.Safe.{IsSafeObject}
use Rattle.mintcx_json.specs.Slacks.{IsSlackObject}
use Rattle.mintcx_json.specs.Verdicts.{IsVerdictObject}
use Rattle.mintcx_cycles.specs.AtCycles.{IsAtCycle}
use Rattle.mintcx_cycles.specs.declared.cycles.AtCycle.{AtCycle}
use Rattle.mintcx_cycles.specs.declared.cycles.AtCycle.TheVariants as at
use Rattle.mintcx_judgements.specs.Fails.{IsFailText}
use Rattle.mintcx_judgements.specs.Passes.{IsPassText}
use Rattle.mintcx_optima.specs.Cycles.{IsCycleText}
use Rattle.mintcx_optima.specs.Optimum.{IsOptimumText}
use Rattle.mintcx_optima.specs.Safe.{IsSafeText}
use Rattle.mintcx_joint.specs.CornersText.{IsCornersText}
use Rattle.mintcx_reports.specs.Reports.{IsReportText}
use Rattle.mintcx_slacks.specs.Histograms.{IsHistogramText}
use Rattle.mintcx_slacks.specs.Slacks.{IsSlackText}
use Rattle.mintcx_verdicts.specs.Verdicts.{IsVerdictText}
use Rattle.mintcx_translation.specs.declared.calls.Aspect.{Aspect}
use Rattle.mintcx_translation.specs.declared.calls.Aspect.TheVariants as aspect
use Rattle.mintcx_answers.specs.Shown.{IsSystemFor}

-- ---- the judgement of a schedule

-- the text of a pass with these departures, its table or its object
abbrev pub IsTextOfPass : Timing → Schedule → Aspect → List ℤ → List ℤ → View → List ℕ → Type 0
IsTextOfPass t s aspect.Rows late early view text = IsPassTable t s late early text
IsTextOfPass t s aspect.Object late early view text = IsPassObject t s late early view.subject text
IsTextOfPass t s told late early view text = IsPassText t s late early view text

-- A pass: the schedule breaks nothing, and the text has its late and early departures.
abbrev pub IsPass : Timing → Schedule → Aspect → View → List ℕ → Type 0
IsPass t s told view text = AreViolations t s [] × ((late : List ℤ) × (early : List ℤ) × AreLate t s late
    × AreEarly t s early × IsTextOfPass t s told late early view text)

-- The departures that the text of a fail names: the late and the early ones, or none where none are exact.
abbrev pub AreTold : Timing → Schedule → List ℤ → List ℤ → Type 0
AreTold t s late early = (AreLate t s late × AreEarly t s early)
    ⊎ (((d : List ℤ) → AreExact t s d → ⊥) × ((late ≡ []) × (early ≡ [])))

-- A fail: the text has all that the schedule breaks.
abbrev pub IsFail : Timing → Schedule → View → List ℕ → Type 0
IsFail t s view text = (violations : List Violation) × AreViolations t s violations × (violations ≢ [])
    × ((late : List ℤ) × (early : List ℤ) × AreTold t s late early × IsFailText t s late early view violations text)

-- A fail in rows: the table has all that the schedule breaks.
abbrev pub IsFailRows : Timing → Schedule → List ℕ → Type 0
IsFailRows t s text = (violations : List Violation) × AreViolations t s violations × (violations ≢ [])
    × IsFailTable t s.den violations text

-- A fail as an object: it has all that the schedule breaks.
abbrev pub IsFailAsObject : Timing → Schedule → View → List ℕ → Type 0
IsFailAsObject t s view text = (violations : List Violation) × AreViolations t s violations × (violations ≢ [])
    × IsFailObject t s violations view.subject text

-- the text of a fail, its table or its object
abbrev pub IsToldFail : Timing → Schedule → Aspect → View → List ℕ → Type 0
IsToldFail t s aspect.Rows view text = IsFailRows t s text
IsToldFail t s aspect.Object view text = IsFailAsObject t s view text
IsToldFail t s told view text = IsFail t s view text

-- the judgement of a schedule
abbrev pub IsJudgement : Timing → Schedule → Aspect → View → Status → List ℕ → Type 0
IsJudgement t s told view Done text = IsPass t s told view text
IsJudgement t s told view Found text = IsToldFail t s told view text
IsJudgement t s told view status text = ⊥

-- The answer of `check`: the judgement of the schedule of a text.
abbrev pub IsCheckAnswer : Timing → Aspect → List ℕ → View → Status → List ℕ → Type 0
IsCheckAnswer t told file view status text = (s : Schedule) × IsScheduleOf file (phase_count t.flat) s
    × IsJudgement t s told view status text

-- ---- optima

-- The answer of `optimise`: the text of an optimum.
abbrev pub IsOptimumAnswer : Timing → View → Status → List ℕ → Type 0
IsOptimumAnswer t view status text = (c : Certificate) × IsOptimum t c × (status ≡ certificate_status c)
    × IsOptimumText t.flat c view text

-- An optimum with its certificate: the text of an optimum, and that very optimum as `verify` takes it.
abbrev pub IsCertifiedAnswer : Timing → View → Status → List ℕ → List ℕ → Type 0
IsCertifiedAnswer t view status text written = (c : Certificate) × IsOptimum t c × (status ≡ certificate_status c)
    × IsOptimumText t.flat c view text × (written ≡ text_of (lines_of c))

-- how a run ends that has found this at a cycle time: that it is too short is found
abbrev pub cycle_status : AtCycle → Status
cycle_status (at.Right s departures) = Done
cycle_status (at.Short chain) = Found

-- The answer of `optimise` for a cycle time in femtoseconds: the text of what there is at it.
abbrev pub IsCycleAnswer : Timing → ℕ → View → Status → List ℕ → Type 0
IsCycleAnswer t cycle view status text = (found : AtCycle) × IsAtCycle t cycle found × (status ≡ cycle_status found)
    × IsCycleText t.flat cycle found view text

-- The text is a schedule's own, as `check` takes it.
abbrev pub IsOwnText : Schedule → List ℕ → Type 0
IsOwnText s text = text ≡ text_of (schedule_text_lines s)

-- the schedule of a certificate, or else the text of the chain that forbids every cycle time
abbrev pub IsScheduleOrNever : Timing → Certificate → View → List ℕ → Type 0
IsScheduleOrNever t (certificate.Least s departures chain) view text = IsOwnText s text
IsScheduleOrNever t (certificate.Never chain) view text = IsOptimumText t.flat (certificate.Never chain) view text

-- the schedule at a cycle time, or else the text of the chain that forbids it
abbrev pub IsScheduleOrShort : Timing → ℕ → AtCycle → View → List ℕ → Type 0
IsScheduleOrShort t cycle (at.Right s departures) view text = IsOwnText s text
IsScheduleOrShort t cycle (at.Short chain) view text = IsCycleText t.flat cycle (at.Short chain) view text

-- The answer of `schedule`: the schedule of the least cycle time, or of another one in femtoseconds.
abbrev pub IsTimedAnswer : Timing → Option ℕ → View → Status → List ℕ → Type 0
IsTimedAnswer t None view status text = (c : Certificate) × IsOptimum t c × (status ≡ certificate_status c)
    × IsScheduleOrNever t c view text
IsTimedAnswer t (Some cycle) view status text = (found : AtCycle) × IsAtCycle t cycle found
    × (status ≡ cycle_status found) × IsScheduleOrShort t cycle found view text

-- The answer of `optimise` in rows: the table of the chain of an optimum.
abbrev pub IsChainAnswer : Timing → Status → List ℕ → Type 0
IsChainAnswer t status text = (c : Certificate) × IsOptimum t c × (status ≡ certificate_status c)
    × IsOptimumTable t.flat c text

-- The answer of `optimise` or `report` as an object: that of an optimum.
abbrev pub IsObjectAnswer : List ℕ → Timing → View → Status → List ℕ → Type 0
IsObjectAnswer command t view status text = (c : Certificate) × IsOptimum t c × (status ≡ certificate_status c)
    × IsOptimumObject command t.flat c view.subject text

-- The answer of `optimise` for a cycle time in rows: the table of what there is at it.
abbrev pub IsCycleRows : Timing → ℕ → Status → List ℕ → Type 0
IsCycleRows t cycle status text = (found : AtCycle) × IsAtCycle t cycle found × (status ≡ cycle_status found)
    × IsCycleTable t.flat found text

-- The same as an object.
abbrev pub IsCycleAsObject : Timing → ℕ → View → Status → List ℕ → Type 0
IsCycleAsObject t cycle view status text = (found : AtCycle) × IsAtCycle t cycle found
    × (status ≡ cycle_status found) × IsCycleObject t.flat cycle found view.subject text

-- the answer of `optimise`, of the least cycle time or of another one
abbrev pub IsOptimiseAnswer : Timing → Aspect → View → Status → List ℕ → Type 0
IsOptimiseAnswer t (aspect.Cycle cycle) view status text = IsCycleAnswer t cycle view status text
IsOptimiseAnswer t (aspect.Schedule cycle) view status text = IsTimedAnswer t cycle view status text
IsOptimiseAnswer t aspect.Rows view status text = IsChainAnswer t status text
IsOptimiseAnswer t (aspect.CycleRows cycle) view status text = IsCycleRows t cycle status text
IsOptimiseAnswer t aspect.Object view status text = IsObjectAnswer (codes "optimise") t view status text
IsOptimiseAnswer t (aspect.CycleObject cycle) view status text = IsCycleAsObject t cycle view status text
IsOptimiseAnswer t told view status text = IsOptimumAnswer t view status text

-- The answer of `report`: the report of an optimum, with the cells of its gates.
abbrev pub IsReportAnswer : Timing → View → Status → List ℕ → Type 0
IsReportAnswer t view status text = (c : Certificate) × IsOptimum t c × (status ≡ certificate_status c)
    × ((cells : List (List ℕ)) × IsReportText t c cells view text)

-- what is told of `report`: the report, the rows of its chain, or its object
abbrev pub IsToldReport : Timing → Aspect → View → Status → List ℕ → Type 0
IsToldReport t aspect.Rows view status text = IsChainAnswer t status text
IsToldReport t aspect.Object view status text = IsObjectAnswer (codes "report") t view status text
IsToldReport t told view status text = IsReportAnswer t view status text

-- the least cycle time of a certificate in femtoseconds, 0 where no schedule is right
abbrev pub least_cycle : Certificate → Ratio
least_cycle (certificate.Least s departures chain) = over s.cycle s.den
least_cycle (certificate.Never chain) = over (pos 0) (pos 1)

-- the text of an optimum that keeps each hold, its table or its object
abbrev pub IsTextOfSafe : Timing → Aspect → SafeCertificate → Ratio → View → List ℕ → Type 0
IsTextOfSafe t aspect.Rows c without view text = IsSafeTable t.flat c text
IsTextOfSafe t aspect.Object c without view text = IsSafeObject t.flat c without view.subject text
IsTextOfSafe t told c without view text = IsSafeText t.flat c without view text

-- The answer of `safe`: the text of an optimum that keeps each hold, beside the least cycle time of all schedules.
abbrev pub IsSafeAnswer : Timing → Aspect → View → Status → List ℕ → Type 0
IsSafeAnswer t told view status text = (c : SafeCertificate) × IsSafeOptimum t c × (status ≡ safe_status c)
    × ((least : Certificate) × IsOptimum t least × IsTextOfSafe t told c (least_cycle least) view text)

-- the text of the slacks at the least cycle time, a row for each pair, also as a table or an object, or a count of
-- pairs for each bar
abbrev pub IsTextOfSlacks : Timing → Aspect → View → Slacks → List ℕ → Type 0
IsTextOfSlacks t aspect.Histogram view x text = IsHistogramText view x text
IsTextOfSlacks t aspect.Rows view x text = IsSlackTable t x text
IsTextOfSlacks t aspect.Object view x text = IsSlackObject t x view.subject text
IsTextOfSlacks t told view x text = IsSlackText t view x text

-- The answer of `slack`: the text of the slacks at the least cycle time.
abbrev pub IsSlacksAnswer : Timing → Aspect → View → Status → List ℕ → Type 0
IsSlacksAnswer t told view status text = (x : Slacks) × IsSlackAnswer t x × (status ≡ slack_status x)
    × IsTextOfSlacks t told view x text

-- ---- certificates

-- what the design is called beside a certificate
abbrev pub name_beside : List (List ℕ) → List ℕ
name_beside beside = slice_index_or beside 0 []

-- A rule of the clock or a bound fails: the second test or the third.
abbrev pub fails_rule : Verdict → Bool
fails_rule verdict.Valid = false
fails_rule (verdict.Invalid n) = (n == 2) || (n == 3)

-- The violations with which a verdict is told: those of the schedule where a rule or a bound fails, and else none.
abbrev pub AreOfVerdict : Timing → Certificate → Verdict → List Violation → Type 0
AreOfVerdict t (certificate.Least s departures chain) v vs =
    OnTrue (fails_rule v) (AreViolations t s vs) × OnFalse (fails_rule v) (vs ≡ [])
AreOfVerdict t (certificate.Never chain) v vs = vs ≡ []

-- the text of a verdict on a certificate of a design that is called so
abbrev pub IsToldVerdict : Timing → Certificate → List ℕ → View → Verdict → List ℕ → Type 0
IsToldVerdict t c design view v text = (vs : List Violation) × AreOfVerdict t c v vs
    × IsVerdictText t c design view vs v text

-- the object of a verdict on a certificate of a design that is called so
abbrev pub IsVerdictAsObject : Timing → Certificate → List ℕ → View → Verdict → List ℕ → Type 0
IsVerdictAsObject t c design view v text = (vs : List Violation) × AreOfVerdict t c v vs
    × IsVerdictObject t c design view.subject vs v text

-- the text of a verdict, its table or its object
abbrev pub IsTextOfVerdict : Timing → Aspect → Certificate → List ℕ → View → Verdict → List ℕ → Type 0
IsTextOfVerdict t aspect.Rows c design view v text = IsVerdictTable v text
IsTextOfVerdict t aspect.Object c design view v text = IsVerdictAsObject t c design view v text
IsTextOfVerdict t told c design view v text = IsToldVerdict t c design view v text

-- how a run ends that tells the schedule of a certificate with this verdict
abbrev pub certified_status : Verdict → Certificate → Status
certified_status verdict.Valid c = certificate_status c
certified_status (verdict.Invalid n) c = Found

-- the schedule of a certificate that is valid and has one, or else the text of the verdict
abbrev pub IsScheduleOrVerdict : Timing → Certificate → List ℕ → View → Verdict → List ℕ → Type 0
IsScheduleOrVerdict t (certificate.Least s departures chain) design view verdict.Valid text = IsOwnText s text
IsScheduleOrVerdict t c design view v text = IsToldVerdict t c design view v text

-- The answer of `verify`: the text of the verdict on a certificate; or of `schedule`: its schedule.
abbrev pub IsVerifyAnswer : Timing → Aspect → Certificate → List ℕ → View → Status → List ℕ → Type 0
IsVerifyAnswer t (aspect.Schedule cycle) c design view status text = (v : Verdict) × IsVerdict t c v
    × (status ≡ certified_status v c) × IsScheduleOrVerdict t c design view v text
IsVerifyAnswer t told c design view status text = (v : Verdict) × IsVerdict t c v
    × (status ≡ verdict_status v) × IsTextOfVerdict t told c design view v text

-- ---- corners

-- the text of the optimum of all corners, its table or its object
abbrev pub IsTextOfCorners : List Timing → Aspect → List (List ℕ) → List Certificate → CornerCertificate → View →
    List ℕ → Type 0
IsTextOfCorners ts aspect.Rows names alone c view text = IsCornersTable ts c text
IsTextOfCorners ts aspect.Object names alone c view text = IsCornersObject ts names alone c view.subject text
IsTextOfCorners ts told names alone c view text = IsCornersText ts names alone c view text

-- The answer of `corners`: the text of the optimum of all corners, with the optimum of each alone.
abbrev pub IsCornersAnswer : List Timing → Aspect → List (List ℕ) → View → Status → List ℕ → Type 0
IsCornersAnswer ts told names view status text = (c : CornerCertificate) × IsOptimumOf ts c
    × (status ≡ corner_status c)
    × ((alone : List Certificate) × AllZip IsOptimum ts alone × IsTextOfCorners ts told names alone c view text)

-- ---- commands

-- The answer to a job, with what of it is told, on a design and on the text of the file that stands beside the
-- design's.
abbrev pub IsJobAnswer : Most → Job → Aspect → List (List ℕ) → Timing → List ℕ → View → Status → List ℕ → Type 0
IsJobAnswer most Check told beside t file view status text = IsCheckAnswer t told file view status text
IsJobAnswer most Optimise told beside t file view status text = IsOptimiseAnswer t told view status text
IsJobAnswer most Verify told beside t file view status text = (c : Certificate) × IsCertificateText most.members file c
    × IsVerifyAnswer t told c (name_beside beside) view status text
IsJobAnswer most Report told beside t file view status text = IsToldReport t told view status text
IsJobAnswer most Safe told beside t file view status text = IsSafeAnswer t told view status text
IsJobAnswer most Slack told beside t file view status text = (element_count t.flat ≤ most.slack)
    × IsSlacksAnswer t told view status text

-- The answer of a command on texts of which none is refused, of the design at hand where there is one; what stands
-- beside its subject is called so.
abbrev pub IsContentAnswer : Most → Option Design → Command → Aspect → List (List ℕ) → List (List ℕ) → View → Status →
    List ℕ → Type 0
IsContentAnswer most shown (OfDesign job from) told beside files view status text = (t : Timing)
    × IsSystemFor most shown from files t × IsJobAnswer most job told beside t (own_file from files) view status text
IsContentAnswer most shown (Sample number) told beside files view status text = ⊥
IsContentAnswer most shown (Corners count) told beside files view status text =
    (ts : List Timing) × AreGiven most (corners_of files) ts × (elements_together ts ≤ most.elements)
    × IsCornersAnswer ts told beside view status text

-- The command is asked of files, so it is no sample.
abbrev pub IsOnFiles : Command → Type 0
IsOnFiles command = (number : ℕ) → command ≢ Sample number

-- Each file of delays of corners has a name.
abbrev pub AreNamed : Command → List (List ℕ) → Type 0
AreNamed (Corners count) beside = length beside ≡ count
AreNamed command beside = Unit {0}

-- The answer for people to a command, on the bytes of its files, of which none is refused, and of the design at hand
-- where there is one: the status, which is mintc's where the whole is told, and the text of what is found, shown in
-- this view.
abbrev pub HasAnswer : Most → Option Design → Command → Aspect → List (List ℕ) → List (List ℕ) → View → Status →
    List ℕ → Type 0
HasAnswer most shown command told beside files view status text = AreShort most files
    × IsContentAnswer most shown command told beside files view status text

-- The answer for people to `optimise` on the bytes of its files, of which none is refused, and of the design at hand
-- where there is one: the status, the text of what is found, shown in this view, and the text of its certificate.
abbrev pub HasCertificate : Most → Option Design → Source → List (List ℕ) → View → Status → List ℕ → List ℕ → Type 0
HasCertificate most shown from files view status text written = AreShort most files
    × ((t : Timing) × IsSystemFor most shown from files t × IsCertifiedAnswer t view status text written)
