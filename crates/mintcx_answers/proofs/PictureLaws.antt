-- Pictures of optima, certificates and slacks.
use Rattle.std.proofs.Common.{◌≡◌, ℕ, ℤ, List, sym, subst, Option, Result, Ok, Err, IfOk}
use Rattle.mintc_text.specs.declared.limits.Most.{Most}
use Rattle.mintc_fraction.specs.Ratio.{Ratio}
use Rattle.mintc_timing.specs.Design.{Design, Timing}
use Rattle.mintc_timing.specs.declared.clocking.Schedule.{Schedule}
use Rattle.mintc_certificate.specs.declared.certificate.Certificate.{Certificate}
use Rattle.mintc_certificate.specs.declared.certificate.Certificate.TheVariants.{Least, Never}
use Rattle.mintc_certificate.specs.declared.members.Member.{Member}
use Rattle.mintc_checker.specs.Verdicts.{IsVerdict}
use Rattle.mintc_checker.specs.declared.verdict.Verdict.{Verdict}
use Rattle.mintc_checker.specs.declared.verdict.Verdict.TheVariants.{Valid}
use Rattle.mintc_slack.specs.Answers.{IsSlackAnswer}
use Rattle.mintc_slack.specs.declared.finding.Slacks.{Slacks}
use Rattle.mintc_slack.specs.declared.finding.Slacks.TheVariants as slacks
use Rattle.mintc_command_answers.specs.Jobs.{IsOptimum}
use Rattle.mintc_command_answers.specs.Sources.{own_file}
use Rattle.mintc_command_answers.specs.declared.command.Source.{Source}
use Rattle.mintcx_frame.specs.declared.view.View.{View}
use Rattle.mintcx_optima.specs.Optimum.{IsOptimumText}
use Rattle.mintcx_slacks.specs.Slacks.{IsSlackText}
use Rattle.mintcx_draw.specs.Drawings.{IsDrawnOf}
use Rattle.mintcx_histogram.specs.Pictures.{IsSlackDrawn}
use Rattle.mintcx_answers.specs.declared.pictures.Motif.{Motif}
use Rattle.mintcx_answers.specs.declared.pictures.Pictured.{Pictured}
use Rattle.mintcx_answers.specs.Shown.{IsSystemFor}
use Rattle.mintcx_answers.specs.Pictures.{AreShown, IsByVerdict, IsCertificateShown, IsDenied, IsOfFiles, IsOfMotif, IsOptimumShown, IsShowing, IsShown, IsSlackShown}

-- ---- optima

pub optimum_drawn : (t : Timing) (c : Certificate) (s : Schedule) (ds : List ℤ) (ms : List Member) (view : View) (told : Pictured) → c ≡ Least s ds ms → IsOptimum t c →
    IsShowing (IsDrawnOf t.flat c) told → IsOptimumShown t view told
optimum_drawn t c s ds ms view told is optimum h =
    let own : IsShown t (Least s ds ms) view told = subst (λ (x : Certificate). IsShowing (IsDrawnOf t.flat x) told) is h in
    (c, optimum, subst (λ (x : Certificate). IsShown t x view told) (sym is) own)

pub optimum_denied : (t : Timing) (c : Certificate) (ms : List Member) (view : View) (told : Pictured) → c ≡ Never ms → IsOptimum t c →
    IsDenied (IsOptimumText t.flat c view) told → IsOptimumShown t view told
optimum_denied t c ms view told is optimum h =
    let own : IsShown t (Never ms) view told = subst (λ (x : Certificate). IsDenied (IsOptimumText t.flat x view) told) is h in
    (c, optimum, subst (λ (x : Certificate). IsShown t x view told) (sym is) own)

-- ---- certificates

-- a valid one
pub certificate_drawn : (t : Timing) (c : Certificate) (s : Schedule) (ds : List ℤ) (ms : List Member) (design : List ℕ) (view : View) (v : Verdict) (told : Pictured) →
    c ≡ Least s ds ms → v ≡ Valid → IsVerdict t c v → IsShowing (IsDrawnOf t.flat c) told → IsCertificateShown t c design view told
certificate_drawn t c s ds ms design view v told is valid verdict h =
    let own : IsByVerdict t (Least s ds ms) design view Valid told = subst (λ (x : Certificate). IsShowing (IsDrawnOf t.flat x) told) is h in
    let judged = subst (λ (y : Verdict). IsByVerdict t (Least s ds ms) design view y told) (sym valid) own in
    (v, verdict, subst (λ (x : Certificate). IsByVerdict t x design view v told) (sym is) judged)

-- ---- slacks

pub slacks_shown_least : (t : Timing) (found : Slacks) (cycle : Ratio) (extra : List ℤ) (view : View) (told : Pictured) → found ≡ slacks.Least cycle extra → IsSlackAnswer t found →
    IsShowing (IsSlackDrawn view found) told → IsSlackShown t view told
slacks_shown_least t found cycle extra view told is answer h =
    let own : AreShown t (slacks.Least cycle extra) view told = subst (λ (x : Slacks). IsShowing (IsSlackDrawn view x) told) is h in
    (found, answer, subst (λ (x : Slacks). AreShown t x view told) (sym is) own)

pub slacks_shown_never : (t : Timing) (found : Slacks) (view : View) (told : Pictured) → found ≡ slacks.Never → IsSlackAnswer t found →
    IsDenied (IsSlackText t view found) told → IsSlackShown t view told
slacks_shown_never t found view told is answer h =
    let own : AreShown t slacks.Never view told = subst (λ (x : Slacks). IsDenied (IsSlackText t view x) told) is h in
    (found, answer, subst (λ (x : Slacks). AreShown t x view told) (sym is) own)

-- ---- the files

-- In a run with these limits.
module _ (most : Most) where
  -- what is drawn of a design and of the text beside it
  pub shown_on_file : {E : Type 0} (r : Result Pictured E) (shown : Option Design) (shows : Motif) (source : Source) (design : List ℕ) (view : View) (texts : List (List ℕ)) (t : Timing) (file : List ℕ) →
      IsSystemFor most shown source texts t → file ≡ own_file source texts → IfOk r (IsOfMotif most shows design t file view) → IfOk r (IsOfFiles most shown shows source design view texts)
  shown_on_file (Err e) shown shows source design view texts t file gives same h = tt
  shown_on_file (Ok told) shown shows source design view texts t file gives same h = (t, gives, subst (λ (f : List ℕ). IsOfMotif most shows design t f view told) same h)
