-- Optima with their certificates, on the texts of a design.
use Rattle.std.proofs.Common.{◌≡◌, ℕ, List, sym, subst, Option, Result, Ok, Err, IfOk}
use Rattle.mintc_text.specs.declared.limits.Most.{Most}
use Rattle.mintc_timing.specs.Design.{Design, Timing}
use Rattle.mintc_command_answers.specs.Answers.{IsOfCommand}
use Rattle.mintc_command_answers.specs.Jobs.{certificate_status}
use Rattle.mintc_command_answers.specs.Sources.{AreShort}
use Rattle.mintc_command_answers.specs.declared.command.Source.{Source}
use Rattle.mintcx_frame.specs.declared.view.View.{View}
use Rattle.mintcx_answers.specs.declared.certificates.Certified.{Certified}
use Rattle.mintcx_answers.specs.Answers.{HasCertificate, IsCertifiedAnswer}
use Rattle.mintcx_answers.specs.Shown.{IsSystemFor}
use Rattle.mintcx_answers.proofs.AnsweringLaws.{of_certificate}

-- In a run with these limits.
module _ (most : Most) where
  -- the optimum of the system that short texts give
  pub certified_told : {E : Type 0} (r : Result Certified E) (shown : Option Design) (source : Source) (texts : List (List ℕ)) (view : View) → AreShort most texts →
      IfOk r (λ (a : Certified). (t : Timing) × IsSystemFor most shown source texts t × IsCertifiedAnswer t view a.answer.status a.answer.text a.certificate) →
      IfOk r (λ (a : Certified). HasCertificate most shown source texts view a.answer.status a.answer.text a.certificate)
  certified_told (Err e) shown source texts view short h = tt
  certified_told (Ok a) shown source texts view short h = (short, h)

  -- its status is one of commands
  pub certified_of_command : {E : Type 0} (r : Result Certified E) (shown : Option Design) (source : Source) (texts : List (List ℕ)) (view : View) →
      IfOk r (λ (a : Certified). (t : Timing) × IsSystemFor most shown source texts t × IsCertifiedAnswer t view a.answer.status a.answer.text a.certificate) →
      IfOk r (λ (a : Certified). IsOfCommand a.answer.status)
  certified_of_command (Err e) shown source texts view h = tt
  certified_of_command (Ok a) shown source texts view (t, gives, (c, optimum, same, is_text, is_written)) = subst IsOfCommand (sym same) (of_certificate most c)
