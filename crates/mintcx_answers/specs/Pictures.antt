-- Pictures as SVG, of the bytes of their files.
use Rattle.std.specs.Prelude.{◌≡◌, ◌⊎◌, ℕ, ℤ, List, Option}
use Rattle.mintc_text.specs.declared.limits.Most.{Most}
use Rattle.mintc_timing.specs.Design.{Design, Timing, phase_count}
use Rattle.mintc_timing.specs.Departures.{AreEarly, AreExact, AreLate}
use Rattle.mintc_timing.specs.declared.clocking.Schedule.{Schedule}
use Rattle.mintc_certificate.specs.CertificateText.{IsCertificateText}
use Rattle.mintc_certificate.specs.declared.certificate.Certificate.{Certificate}
use Rattle.mintc_certificate.specs.declared.certificate.Certificate.TheVariants as certificate
use Rattle.mintc_checker.specs.Verdicts.{IsVerdict}
use Rattle.mintc_checker.specs.declared.verdict.Verdict.{Verdict}
use Rattle.mintc_checker.specs.declared.verdict.Verdict.TheVariants as verdict
use Rattle.mintc_slack.specs.Answers.{IsSlackAnswer}
use Rattle.mintc_slack.specs.declared.finding.Slacks.{Slacks}
use Rattle.mintc_slack.specs.declared.finding.Slacks.TheVariants as slacks
use Rattle.mintc_command_answers.specs.Jobs.{IsOptimum, IsScheduleOf}
use Rattle.mintc_command_answers.specs.Sources.{AreShort, own_file}
use Rattle.mintc_command_answers.specs.declared.command.Command.{Command}
use Rattle.mintc_command_answers.specs.declared.command.Command.TheVariants.{OfDesign}
use Rattle.mintc_command_answers.specs.declared.command.Job.{Job}
use Rattle.mintc_command_answers.specs.declared.command.Job.TheVariants.{Check, Optimise, Slack, Verify}
use Rattle.mintc_command_answers.specs.declared.command.Source.{Source}
use Rattle.mintcx_frame.specs.declared.view.View.{View}
use Rattle.mintcx_optima.specs.Optimum.{IsOptimumText}
use Rattle.mintcx_slacks.specs.Slacks.{IsSlackText}
use Rattle.mintcx_picture.specs.declared.drawn.Drawn.{Drawn}
use Rattle.mintcx_picture.specs.declared.drawn.Drawn.TheVariants.{Unsettled}
use Rattle.mintcx_draw.specs.Drawings.{IsDrawnOf}
use Rattle.mintcx_fares.specs.Drawings.{IsFaresDrawn}
use Rattle.mintcx_histogram.specs.Pictures.{IsSlackDrawn}
use Rattle.mintcx_answers.specs.Answers.{IsToldVerdict}
use Rattle.mintcx_answers.specs.Shown.{IsSystemFor}
use Rattle.mintcx_answers.specs.declared.pictures.Motif.{Motif}
use Rattle.mintcx_answers.specs.declared.pictures.Motif.TheVariants as motif
use Rattle.mintcx_answers.specs.declared.pictures.Pictured.{Pictured}
use Rattle.mintcx_answers.specs.declared.pictures.Pictured.TheVariants.{Shown, Denied}

-- there is a picture, or why none can be drawn, and this holds of it
abbrev pub IsShowing : (Drawn → Type 0) → Pictured → Type 0
IsShowing P (Shown drawn) = P drawn
IsShowing P told = ⊥

-- there is no picture, and this is said
abbrev pub IsDenied : (List ℕ → Type 0) → Pictured → Type 0
IsDenied P (Denied text) = P text
IsDenied P told = ⊥

-- a certificate of a least cycle time is drawn; of one that forbids each, the text of `optimise` is told
abbrev pub IsShown : Timing → Certificate → View → Pictured → Type 0
IsShown t (certificate.Least s departures chain) view told =
    IsShowing (IsDrawnOf t.flat (certificate.Least s departures chain)) told
IsShown t (certificate.Never chain) view told = IsDenied (IsOptimumText t.flat (certificate.Never chain) view) told

-- The picture of an optimum.
abbrev pub IsOptimumShown : Timing → View → Pictured → Type 0
IsOptimumShown t view told = (c : Certificate) × IsOptimum t c × IsShown t c view told

-- a valid certificate of a least cycle time is drawn; of another one the verdict is told, on a design that is called so
abbrev pub IsByVerdict : Timing → Certificate → List ℕ → View → Verdict → Pictured → Type 0
IsByVerdict t (certificate.Least s departures chain) design view verdict.Valid told =
    IsShowing (IsDrawnOf t.flat (certificate.Least s departures chain)) told
IsByVerdict t c design view v told = IsDenied (IsToldVerdict t c design view v) told

-- The picture of a certificate of a design that is called so.
abbrev pub IsCertificateShown : Timing → Certificate → List ℕ → View → Pictured → Type 0
IsCertificateShown t c design view told = (v : Verdict) × IsVerdict t c v × IsByVerdict t c design view v told

-- How a schedule fares is drawn, by its departures; or nothing, where data never settles.
abbrev pub IsScheduleShown : Timing → Schedule → Pictured → Type 0
IsScheduleShown t s told = ((late : List ℤ) × (early : List ℤ) × AreLate t s late × AreEarly t s early
    × IsShowing (IsFaresDrawn t s late early) told)
    ⊎ (((d : List ℤ) → AreExact t s d → ⊥) × (told ≡ Shown Unsettled))

-- the slacks at a least cycle time are drawn; where there is none, the text of `slack` is told
abbrev pub AreShown : Timing → Slacks → View → Pictured → Type 0
AreShown t (slacks.Least cycle extra) view told = IsShowing (IsSlackDrawn view (slacks.Least cycle extra)) told
AreShown t slacks.Never view told = IsDenied (IsSlackText t view slacks.Never) told

-- The picture of the slacks of all pairs.
abbrev pub IsSlackShown : Timing → View → Pictured → Type 0
IsSlackShown t view told = (found : Slacks) × IsSlackAnswer t found × AreShown t found view told

-- ---- the files

-- what reads the text beside the design
abbrev pub job_of : Motif → Job
job_of motif.Optimum = Optimise
job_of motif.Certificate = Verify
job_of motif.Schedule = Check
job_of motif.Slacks = Slack

abbrev pub command_of : Motif → Source → Command
command_of shows from = OfDesign (job_of shows) from

-- The picture of a motif, of a design and the text beside it.
abbrev pub IsOfMotif : Most → Motif → List ℕ → Timing → List ℕ → View → Pictured → Type 0
IsOfMotif most motif.Optimum design t file view told = IsOptimumShown t view told
IsOfMotif most motif.Certificate design t file view told = (c : Certificate)
    × IsCertificateText most.members file c × IsCertificateShown t c design view told
IsOfMotif most motif.Schedule design t file view told = (s : Schedule)
    × IsScheduleOf file (phase_count t.flat) s × IsScheduleShown t s told
IsOfMotif most motif.Slacks design t file view told = IsSlackShown t view told

-- The picture of a motif, of files of which none is too long, and of the design at hand where there is one.
abbrev pub IsOfFiles : Most → Option Design → Motif → Source → List ℕ → View → List (List ℕ) → Pictured → Type 0
IsOfFiles most shown shows from design view files told = (t : Timing) × IsSystemFor most shown from files t
    × IsOfMotif most shows design t (own_file from files) view told

-- A picture as SVG, on the bytes of its files, of which none is refused, and of the design at hand where there is one.
abbrev pub HasPicture : Most → Option Design → Motif → Source → List ℕ → View → List (List ℕ) → Pictured → Type 0
HasPicture most shown shows from design view files told =
    AreShort most files × IsOfFiles most shown shows from design view files told
