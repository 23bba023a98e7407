-- The verdict on a certificate is the answer to `verify`, whichever list of the design's pairs is taken.
use Rattle.std.proofs.Common.{◌≡◌, ℕ, List, sym, subst, Result, Ok, Err, IfOk, IfErr}
use Rattle.mintc_text.specs.declared.limits.Most.{Most}
use Rattle.mintc_text.specs.declared.refusals.Stop.{Stop}
use Rattle.mintc_text.specs.declared.refusals.Stop.TheVariants as stop
use Rattle.mintc_text.specs.Stops.{StopsAt}
use Rattle.mintc_timing.specs.Design.{Design, Timing}
use Rattle.mintc_timing.specs.Order.{ArePathsShort}
use Rattle.mintc_timing.specs.Paths.{ArePairs}
use Rattle.mintc_certificate.specs.CertificateText.{IsCertificateRefusal}
use Rattle.mintc_command_answers.specs.Answers.{IsContentAnswer, IsContentRefusal, of_file}
use Rattle.mintc_command_answers.specs.Jobs.{IsJobAnswer}
use Rattle.mintc_command_answers.specs.Sources.{Gives, GivesOrdered, own_file}
use Rattle.mintc_command_answers.specs.declared.answer.Answer.{Answer}
use Rattle.mintc_command_answers.specs.declared.command.Command.TheVariants.{OfDesign}
use Rattle.mintc_command_answers.specs.declared.command.Job.{Job}
use Rattle.mintc_command_answers.specs.declared.command.Job.TheVariants.{Verify}
use Rattle.mintc_command_answers.specs.declared.command.Source.{Source}

-- In a run with these limits.
module _ (most : Most) where
  pub short_paths : (source : Source) (texts : List (List ℕ)) (design : Design) (order : List ℕ) → GivesOrdered most source texts design order → ArePathsShort design
  short_paths source texts design order h = subst (λ (d : Design). ArePathsShort d) h.same h.given.accepted.short

  pub answer_on_ordered : {E : Type 0} (r : Result Answer E) (source : Source) (texts : List (List ℕ)) (design : Design) (order file : List ℕ) → GivesOrdered most source texts design order →
      file ≡ own_file source texts →
      IfOk r (λ (a : Answer). (t : Timing) → t.flat ≡ design → ArePairs t.flat t.pairs → IsJobAnswer most Verify t file a.status a.text) →
      IfOk r (λ (a : Answer). IsContentAnswer most (OfDesign Verify source) texts a.status a.text)
  answer_on_ordered (Err e) source texts design order file h same v = tt
  answer_on_ordered (Ok a) source texts design order file h same v =
      (h.timing, h.given, subst (λ f. IsJobAnswer most Verify h.timing f a.status a.text) same (v h.timing h.same h.given.pairs))

  -- So it is for a system, whose pairs are its own.
  pub answer_on_system : {E : Type 0} (r : Result Answer E) (job : Job) (t : Timing) (design : Design) (file : List ℕ) → job ≡ Verify → design ≡ t.flat → ArePairs t.flat t.pairs →
      IfOk r (λ (a : Answer). (u : Timing) → u.flat ≡ design → ArePairs u.flat u.pairs → IsJobAnswer most Verify u file a.status a.text) →
      IfOk r (λ (a : Answer). IsJobAnswer most job t file a.status a.text)
  answer_on_system (Err e) job t design file is same pairs v = tt
  answer_on_system (Ok a) job t design file is same pairs v = subst (λ (j : Job). IsJobAnswer most j t file a.status a.text) (sym is) (v t (sym same) pairs)

  -- What is answered on the source's texts and on the text beside them is the command's answer.
  pub answer_on_file : {E : Type 0} (r : Result Answer E) (job : Job) (source : Source) (texts : List (List ℕ)) (t : Timing) (file : List ℕ) → Gives most source texts t → file ≡ own_file source texts →
      IfOk r (λ (a : Answer). IsJobAnswer most job t file a.status a.text) → IfOk r (λ (a : Answer). IsContentAnswer most (OfDesign job source) texts a.status a.text)
  answer_on_file (Err e) job source texts t file gives same h = tt
  answer_on_file (Ok a) job source texts t file gives same h = (t, gives, subst (λ f. IsJobAnswer most job t f a.status a.text) same h)

  stop_on_certificate : (source : Source) (texts : List (List ℕ)) (design : Design) (order file : List ℕ) (s : Stop) → GivesOrdered most source texts design order →
      file ≡ own_file source texts → StopsAt (IsCertificateRefusal most.members file) s → StopsAt (IsContentRefusal most (OfDesign Verify source) texts) s
  stop_on_certificate source texts design order file (stop.Refused refused) h same g = of_file h.timing h.given (subst (λ f. IsCertificateRefusal most.members f refused) same g)
  stop_on_certificate source texts design order file stop.OutOfMemory h same g = tt

  pub refusal_on_ordered : (r : Result Answer Stop) (source : Source) (texts : List (List ℕ)) (design : Design) (order file : List ℕ) → GivesOrdered most source texts design order →
      file ≡ own_file source texts → IfErr r (StopsAt (IsCertificateRefusal most.members file)) → IfErr r (StopsAt (IsContentRefusal most (OfDesign Verify source) texts))
  refusal_on_ordered (Ok a) source texts design order file h same g = tt
  refusal_on_ordered (Err s) source texts design order file h same g = stop_on_certificate source texts design order file s h same g

  -- The answer to `verify` is that to a job which is `verify`.
  pub as_verify : {E : Type 0} (r : Result Answer E) (job : Job) (source : Source) (texts : List (List ℕ)) → job ≡ Verify →
      IfOk r (λ (a : Answer). IsContentAnswer most (OfDesign Verify source) texts a.status a.text) → IfOk r (λ (a : Answer). IsContentAnswer most (OfDesign job source) texts a.status a.text)
  as_verify r job source texts is h = subst (λ (j : Job). IfOk r (λ (a : Answer). IsContentAnswer most (OfDesign j source) texts a.status a.text)) (sym is) h

  pub refused_as_verify : (r : Result Answer Stop) (job : Job) (source : Source) (texts : List (List ℕ)) → job ≡ Verify →
      IfErr r (StopsAt (IsContentRefusal most (OfDesign Verify source) texts)) → IfErr r (StopsAt (IsContentRefusal most (OfDesign job source) texts))
  refused_as_verify r job source texts is h = subst (λ (j : Job). IfErr r (StopsAt (IsContentRefusal most (OfDesign j source) texts))) (sym is) h
