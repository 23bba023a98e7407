-- Answers for people on the texts of a command, and why there is none.
use Rattle.std.proofs.Common.{◌≡◌, ℕ, List, refl, sym, subst, Option, Some, None, Result, Ok, Err, IfOk, IfErr}
use Rattle.mintc_text.specs.declared.limits.Most.{Most}
use Rattle.mintc_text.specs.declared.refusals.Refusal.{Refusal}
use Rattle.mintc_text.specs.declared.refusals.Refusal.TheVariants as refusal
use Rattle.mintc_text.specs.declared.refusals.Role.{Role}
use Rattle.mintc_timing.specs.Design.{Design, Timing}
use Rattle.mintc_timing.specs.declared.clocking.Schedule.{Schedule}
use Rattle.mintc_certificate.specs.declared.certificate.Certificate.{Certificate}
use Rattle.mintc_certificate.specs.declared.certificate.Certificate.TheVariants as certificate
use Rattle.mintc_safe.specs.declared.certificate.SafeCertificate.{SafeCertificate}
use Rattle.mintc_safe.specs.declared.certificate.SafeCertificate.TheVariants as kept
use Rattle.mintc_slack.specs.declared.finding.Slacks.{Slacks}
use Rattle.mintc_slack.specs.declared.finding.Slacks.TheVariants as slacks
use Rattle.mintc_checker.specs.declared.verdict.Verdict.{Verdict}
use Rattle.mintc_checker.specs.declared.verdict.Verdict.TheVariants.{Valid, Invalid}
use Rattle.mintc_corners.specs.declared.certificate.CornerCertificate.{CornerCertificate}
use Rattle.mintc_corners.specs.declared.certificate.CornerCertificate.TheVariants as joint
use Rattle.mintc_command_answers.specs.Answers.{IsFirstRefusal, IsOfCommand, too_long}
use Rattle.mintc_command_answers.specs.Commands.{roles_of}
use Rattle.mintc_command_answers.specs.Corners.{IsFirstRefused, corner_status, corners_of}
use Rattle.mintc_command_answers.specs.Jobs.{certificate_status, safe_status, slack_status, verdict_status}
use Rattle.mintc_command_answers.specs.Sources.{AreShort, IsLengthRefusal, own_file}
use Rattle.mintc_command_answers.specs.declared.answer.Answer.{Answer}
use Rattle.mintc_command_answers.specs.declared.command.Command.{Command}
use Rattle.mintc_command_answers.specs.declared.command.Command.TheVariants.{OfDesign, Sample, Corners}
use Rattle.mintc_command_answers.specs.declared.command.Job.{Job}
use Rattle.mintc_command_answers.specs.declared.command.Job.TheVariants.{Check, Optimise, Verify, Report, Safe, Slack}
use Rattle.mintc_command_answers.specs.declared.command.Source.{Source}
use Rattle.mintc_command_answers.specs.declared.status.Status.{Status}
use Rattle.mintc_command_answers.specs.declared.status.Status.TheVariants as status
use Rattle.mintcx_frame.specs.declared.view.View.{View}
use Rattle.mintcx_cycles.specs.declared.cycles.AtCycle.{AtCycle}
use Rattle.mintcx_cycles.specs.declared.cycles.AtCycle.TheVariants as at
use Rattle.mintcx_translation.specs.declared.calls.Aspect.{Aspect}
use Rattle.mintcx_translation.specs.declared.calls.Aspect.TheVariants as aspect
use Rattle.mintcx_answers.specs.declared.halts.Halt.{Halt}
use Rattle.mintcx_answers.specs.declared.halts.Halt.TheVariants as halt
use Rattle.mintcx_answers.specs.Halts.{HaltsAt}
use Rattle.mintcx_answers.specs.Shown.{IsFirstRefusalFor, IsSystemFor}
use Rattle.mintcx_answers.proofs.ShownLaws.{corners_first, design_length}
use Rattle.mintcx_answers.specs.Answers.{HasAnswer, IsContentAnswer, IsJobAnswer, IsJudgement, IsOnFiles, IsOptimiseAnswer, IsToldReport, IsVerifyAnswer, certified_status, cycle_status, name_beside}

-- In a run with these limits.
module _ (most : Most) where
  -- what is answered on a design and on the text beside it
  pub answer_on_file : {E : Type 0} (r : Result Answer E) (shown : Option Design) (job : Job) (told : Aspect) (beside : List (List ℕ)) (source : Source) (texts : List (List ℕ)) (t : Timing) (file : List ℕ) (view : View) →
      IsSystemFor most shown source texts t → file ≡ own_file source texts → IfOk r (λ (a : Answer). IsJobAnswer most job told beside t file view a.status a.text) →
      IfOk r (λ (a : Answer). IsContentAnswer most shown (OfDesign job source) told beside texts view a.status a.text)
  answer_on_file (Err e) shown job told beside source texts t file view gives same h = tt
  answer_on_file (Ok a) shown job told beside source texts t file view gives same h = (t, gives, subst (λ f. IsJobAnswer most job told beside t f view a.status a.text) same h)

  -- so it is for a command that is of corners, whatever design is at hand
  pub answered : {E : Type 0} (r : Result Answer E) (shown : Option Design) (command : Command) (count : ℕ) (told : Aspect) (beside texts : List (List ℕ)) (view : View) → command ≡ Corners count → AreShort most texts →
      IfOk r (λ (a : Answer). IsContentAnswer most None (Corners count) told beside texts view a.status a.text) → IfOk r (λ (a : Answer). HasAnswer most shown command told beside texts view a.status a.text)
  answered (Err e) shown command count told beside texts view is short h = tt
  answered (Ok a) shown command count told beside texts view is short h =
      let same : HasAnswer most shown (Corners count) told beside texts view a.status a.text = (short, h) in
      subst (λ (x : Command). HasAnswer most shown x told beside texts view a.status a.text) (sym is) same

  -- and so is why there is none
  of_corners_halt : (shown : Option Design) (count : ℕ) (texts : List (List ℕ)) (why : Halt) → HaltsAt (IsFirstRefusal most (Corners count) texts) (IsFirstRefused most (corners_of texts) 1) why →
      HaltsAt (IsFirstRefusalFor most shown (Corners count) texts) (IsFirstRefused most (corners_of texts) 1) why
  of_corners_halt shown count texts (halt.Refused refused) h = corners_first most shown count texts refused h
  of_corners_halt shown count texts (halt.Corner corner own) (first, rest) = (corners_first most shown count texts (refusal.Corner corner) first, rest)
  of_corners_halt shown count texts halt.OutOfMemory h = tt

  pub halted : {A : Type 0} (r : Result A Halt) (shown : Option Design) (command : Command) (count : ℕ) (texts : List (List ℕ)) → command ≡ Corners count →
      IfErr r (HaltsAt (IsFirstRefusal most (Corners count) texts) (IsFirstRefused most (corners_of texts) 1)) →
      IfErr r (HaltsAt (IsFirstRefusalFor most shown command texts) (IsFirstRefused most (corners_of texts) 1))
  halted (Ok a) shown command count texts is h = tt
  halted (Err why) shown command count texts is h =
      subst (λ (x : Command). HaltsAt (IsFirstRefusalFor most shown x texts) (IsFirstRefused most (corners_of texts) 1) why) (sym is) (of_corners_halt shown count texts why h)

  pub refused_length : (shown : Option Design) (command : Command) (texts : List (List ℕ)) (roles : List Role) (refused : Refusal) → IsOnFiles command → roles ≡ roles_of command →
      IsLengthRefusal most roles texts refused → IsFirstRefusalFor most shown command texts refused
  refused_length shown (OfDesign job source) texts roles refused on same h = design_length most shown job source texts roles refused same h
  refused_length shown (Sample number) texts roles refused on same h = absurd (on number refl)
  refused_length shown (Corners count) texts roles refused on same h =
      corners_first most shown count texts refused (too_long (subst (λ (x : List Role). IsLengthRefusal most x texts refused) same h))

  -- ---- the status of an answer

  pub of_certificate : (c : Certificate) → IsOfCommand (certificate_status c)
  of_certificate (certificate.Least s ds m) = tt
  of_certificate (certificate.Never m) = tt

  of_safe : (c : SafeCertificate) → IsOfCommand (safe_status c)
  of_safe (kept.Least s ds m) = tt
  of_safe (kept.Never m) = tt

  of_slacks : (x : Slacks) → IsOfCommand (slack_status x)
  of_slacks (slacks.Least c e) = tt
  of_slacks slacks.Never = tt

  of_judgement : (t : Timing) (s : Schedule) (told : Aspect) (view : View) (st : Status) (text : List ℕ) → IsJudgement t s told view st text → IsOfCommand st
  of_judgement t s told view status.Done text h = tt
  of_judgement t s told view status.Found text h = tt
  of_judgement t s told view status.Refused text h = absurd h
  of_judgement t s told view status.Usage text h = absurd h
  of_judgement t s told view status.ReadFault text h = absurd h
  of_judgement t s told view status.WriteFault text h = absurd h
  of_judgement t s told view status.OutOfMemory text h = absurd h

  of_cycle : (found : AtCycle) → IsOfCommand (cycle_status found)
  of_cycle (at.Right s ds) = tt
  of_cycle (at.Short m) = tt

  of_optimise : (told : Aspect) (t : Timing) (view : View) (st : Status) (text : List ℕ) → IsOptimiseAnswer t told view st text → IsOfCommand st
  of_optimise aspect.Whole t view st text (c, optimum, same, is_text) = subst IsOfCommand (sym same) (of_certificate c)
  of_optimise (aspect.Cycle cycle) t view st text (found, is_at, same, is_text) = subst IsOfCommand (sym same) (of_cycle found)
  of_optimise aspect.Histogram t view st text (c, optimum, same, is_text) = subst IsOfCommand (sym same) (of_certificate c)
  of_optimise aspect.Clocks t view st text (c, optimum, same, is_text) = subst IsOfCommand (sym same) (of_certificate c)
  of_optimise aspect.Picture t view st text (c, optimum, same, is_text) = subst IsOfCommand (sym same) (of_certificate c)
  of_optimise aspect.Table t view st text (c, optimum, same, is_text) = subst IsOfCommand (sym same) (of_certificate c)
  of_optimise aspect.Object t view st text (c, optimum, same, is_text) = subst IsOfCommand (sym same) (of_certificate c)
  of_optimise aspect.Rows t view st text (c, optimum, same, is_text) = subst IsOfCommand (sym same) (of_certificate c)
  of_optimise (aspect.CycleRows cycle) t view st text (found, is_at, same, is_text) = subst IsOfCommand (sym same) (of_cycle found)
  of_optimise (aspect.CycleObject cycle) t view st text (found, is_at, same, is_text) = subst IsOfCommand (sym same) (of_cycle found)
  of_optimise (aspect.Schedule None) t view st text (c, optimum, same, is_text) = subst IsOfCommand (sym same) (of_certificate c)
  of_optimise (aspect.Schedule (Some cycle)) t view st text (found, is_at, same, is_text) = subst IsOfCommand (sym same) (of_cycle found)

  of_verdict : (v : Verdict) → IsOfCommand (verdict_status v)
  of_verdict Valid = tt
  of_verdict (Invalid n) = tt

  of_certified : (v : Verdict) (c : Certificate) → IsOfCommand (certified_status v c)
  of_certified Valid c = of_certificate c
  of_certified (Invalid n) c = tt

  of_verify : (told : Aspect) (t : Timing) (c : Certificate) (design : List ℕ) (view : View) (st : Status) (text : List ℕ) → IsVerifyAnswer t told c design view st text → IsOfCommand st
  of_verify aspect.Whole t c design view st text (v, is, same, is_text) = subst IsOfCommand (sym same) (of_verdict v)
  of_verify (aspect.Cycle cycle) t c design view st text (v, is, same, is_text) = subst IsOfCommand (sym same) (of_verdict v)
  of_verify aspect.Histogram t c design view st text (v, is, same, is_text) = subst IsOfCommand (sym same) (of_verdict v)
  of_verify aspect.Clocks t c design view st text (v, is, same, is_text) = subst IsOfCommand (sym same) (of_verdict v)
  of_verify aspect.Picture t c design view st text (v, is, same, is_text) = subst IsOfCommand (sym same) (of_verdict v)
  of_verify aspect.Table t c design view st text (v, is, same, is_text) = subst IsOfCommand (sym same) (of_verdict v)
  of_verify aspect.Object t c design view st text (v, is, same, is_text) = subst IsOfCommand (sym same) (of_verdict v)
  of_verify aspect.Rows t c design view st text (v, is, same, is_text) = subst IsOfCommand (sym same) (of_verdict v)
  of_verify (aspect.CycleRows cycle) t c design view st text (v, is, same, is_text) = subst IsOfCommand (sym same) (of_verdict v)
  of_verify (aspect.CycleObject cycle) t c design view st text (v, is, same, is_text) = subst IsOfCommand (sym same) (of_verdict v)
  of_verify (aspect.Schedule cycle) t c design view st text (v, is, same, is_text) = subst IsOfCommand (sym same) (of_certified v c)

  of_report : (told : Aspect) (t : Timing) (view : View) (st : Status) (text : List ℕ) → IsToldReport t told view st text → IsOfCommand st
  of_report aspect.Rows t view st text (c, optimum, same, is_text) = subst IsOfCommand (sym same) (of_certificate c)
  of_report aspect.Whole t view st text (c, optimum, same, rest) = subst IsOfCommand (sym same) (of_certificate c)
  of_report (aspect.Cycle cycle) t view st text (c, optimum, same, rest) = subst IsOfCommand (sym same) (of_certificate c)
  of_report aspect.Clocks t view st text (c, optimum, same, rest) = subst IsOfCommand (sym same) (of_certificate c)
  of_report aspect.Picture t view st text (c, optimum, same, rest) = subst IsOfCommand (sym same) (of_certificate c)
  of_report aspect.Table t view st text (c, optimum, same, rest) = subst IsOfCommand (sym same) (of_certificate c)
  of_report aspect.Object t view st text (c, optimum, same, rest) = subst IsOfCommand (sym same) (of_certificate c)
  of_report (aspect.CycleRows cycle) t view st text (c, optimum, same, rest) = subst IsOfCommand (sym same) (of_certificate c)
  of_report (aspect.CycleObject cycle) t view st text (c, optimum, same, rest) = subst IsOfCommand (sym same) (of_certificate c)
  of_report aspect.Histogram t view st text (c, optimum, same, rest) = subst IsOfCommand (sym same) (of_certificate c)
  of_report (aspect.Schedule cycle) t view st text (c, optimum, same, rest) = subst IsOfCommand (sym same) (of_certificate c)

  of_job : (job : Job) (told : Aspect) (beside : List (List ℕ)) (t : Timing) (file : List ℕ) (view : View) (st : Status) (text : List ℕ) → IsJobAnswer most job told beside t file view st text →
      IsOfCommand st
  of_job Check told beside t file view st text (s, is_of, judged) = of_judgement t s told view st text judged
  of_job Optimise told beside t file view st text h = of_optimise told t view st text h
  of_job Verify told beside t file view st text (c, is_text, h) = of_verify told t c (name_beside beside) view st text h
  of_job Report told beside t file view st text h = of_report told t view st text h
  of_job Safe told beside t file view st text (c, optimum, same, rest) = subst IsOfCommand (sym same) (of_safe c)
  of_job Slack told beside t file view st text (few, (x, answer, same, is_text)) = subst IsOfCommand (sym same) (of_slacks x)

  of_corners : (c : CornerCertificate) → IsOfCommand (corner_status c)
  of_corners (joint.Least s ds m) = tt
  of_corners (joint.Never m) = tt

  of_content : (shown : Option Design) (command : Command) (told : Aspect) (beside texts : List (List ℕ)) (view : View) (st : Status) (text : List ℕ) → IsContentAnswer most shown command told beside texts view st text →
      IsOfCommand st
  of_content shown (OfDesign job source) told beside texts view st text (t, gives, h) = of_job job told beside t (own_file source texts) view st text h
  of_content shown (Sample number) told beside texts view st text h = absurd h
  of_content shown (Corners count) told beside texts view st text (ts, given, few, (c, optimum, same, rest)) = subst IsOfCommand (sym same) (of_corners c)

  pub of_command : {E : Type 0} (r : Result Answer E) (shown : Option Design) (command : Command) (told : Aspect) (beside texts : List (List ℕ)) (view : View) →
      IfOk r (λ (a : Answer). IsContentAnswer most shown command told beside texts view a.status a.text) → IfOk r (λ (a : Answer). IsOfCommand a.status)
  of_command (Err e) shown command told beside texts view h = tt
  of_command (Ok a) shown command told beside texts view h = of_content shown command told beside texts view a.status a.text h
