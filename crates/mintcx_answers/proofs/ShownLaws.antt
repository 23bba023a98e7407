-- What stops an answer about the design at hand, or about the one that files give.
use Rattle.std.proofs.Common.{◌≡◌, ℕ, List, inl, inr, refl, sym, subst, Option, Some, None, Result, Ok, Err, IfErr}
use Rattle.mintc_text.specs.declared.limits.Most.{Most}
use Rattle.mintc_text.specs.declared.refusals.Refusal.{Refusal}
use Rattle.mintc_text.specs.declared.refusals.Role.{Role}
use Rattle.mintc_text.specs.declared.refusals.Stop.{Stop}
use Rattle.mintc_text.specs.declared.refusals.Stop.TheVariants as stop
use Rattle.mintc_text.specs.Stops.{StopsAt}
use Rattle.mintc_timing.specs.Design.{Design, Timing}
use Rattle.mintc_command_answers.specs.Answers.{IsFirstRefusal, of_contents, of_design, of_file, too_long}
use Rattle.mintc_command_answers.specs.Commands.{roles_of}
use Rattle.mintc_command_answers.specs.Jobs.{IsFileRefused}
use Rattle.mintc_command_answers.specs.Sources.{AreShort, IsLengthRefusal, own_file}
use Rattle.mintc_command_answers.specs.declared.command.Command.{Command}
use Rattle.mintc_command_answers.specs.declared.command.Command.TheVariants.{OfDesign, Sample, Corners}
use Rattle.mintc_command_answers.specs.declared.command.Job.{Job}
use Rattle.mintc_command_answers.specs.declared.command.Source.{Source}
use Rattle.mintcx_answers.specs.Halts.{HaltsAt, halt_of}
use Rattle.mintcx_answers.specs.Shown.{HasNoSystem, IsFirstRefusalFor, IsJobRefusalFor, IsSystemFor}

-- In a run with these limits.
module _ (most : Most) where
  -- a design that has no system has no answer
  refused_system : (shown : Option Design) (job : Job) (source : Source) (texts : List (List ℕ)) (refused : Refusal) →
      HasNoSystem most shown source texts refused → IsJobRefusalFor most shown job source texts refused
  refused_system None job source texts refused h = of_design h
  refused_system (Some design) job source texts refused h = inl h

  pub stop_on_system : (shown : Option Design) (job : Job) (source : Source) (texts : List (List ℕ)) (s : Stop) → StopsAt (HasNoSystem most shown source texts) s → StopsAt (IsJobRefusalFor most shown job source texts) s
  stop_on_system shown job source texts (stop.Refused refused) h = refused_system shown job source texts refused h
  stop_on_system shown job source texts stop.OutOfMemory h = tt

  -- nor has one whose text beside it is refused
  refused_beside : (shown : Option Design) (job : Job) (source : Source) (texts : List (List ℕ)) (t : Timing) (refused : Refusal) → IsSystemFor most shown source texts t →
      IsFileRefused most job t.flat (own_file source texts) refused → IsJobRefusalFor most shown job source texts refused
  refused_beside None job source texts t refused gives h = of_file t gives h
  refused_beside (Some design) job source texts t refused gives h = inr (t, gives, h)

  pub stop_beside : {A : Type 0} (shown : Option Design) (r : Result A Stop) (job : Job) (source : Source) (texts : List (List ℕ)) (t : Timing) (file : List ℕ) → IsSystemFor most shown source texts t → file ≡ own_file source texts →
      IfErr r (StopsAt (IsFileRefused most job t.flat file)) → IfErr r (StopsAt (IsJobRefusalFor most shown job source texts))
  stop_beside shown (Ok a) job source texts t file gives same h = tt
  stop_beside shown (Err (stop.Refused refused)) job source texts t file gives same h =
      refused_beside shown job source texts t refused gives (subst (λ f. IsFileRefused most job t.flat f refused) same h)
  stop_beside shown (Err stop.OutOfMemory) job source texts t file gives same h = tt

  -- what stops a job stops its command
  pub first_of_job : (shown : Option Design) (job : Job) (source : Source) (texts : List (List ℕ)) (refused : Refusal) → AreShort most texts → IsJobRefusalFor most shown job source texts refused →
      IsFirstRefusalFor most shown (OfDesign job source) texts refused
  first_of_job None job source texts refused short h = of_contents short h
  first_of_job (Some design) job source texts refused short h = inr (short, h)

  pub job_stopped : {A : Type 0} (shown : Option Design) (r : Result A Stop) (job : Job) (source : Source) (texts : List (List ℕ)) → AreShort most texts → IfErr r (StopsAt (IsJobRefusalFor most shown job source texts)) →
      IfErr r (StopsAt (IsFirstRefusalFor most shown (OfDesign job source) texts))
  job_stopped shown (Ok a) job source texts short h = tt
  job_stopped shown (Err (stop.Refused refused)) job source texts short h = first_of_job shown job source texts refused short h
  job_stopped shown (Err stop.OutOfMemory) job source texts short h = tt

  -- so does a design without a system
  pub system_stopped : {A : Type 0} (shown : Option Design) (r : Result A Stop) (job : Job) (source : Source) (texts : List (List ℕ)) → AreShort most texts → IfErr r (StopsAt (HasNoSystem most shown source texts)) →
      IfErr r (StopsAt (IsFirstRefusalFor most shown (OfDesign job source) texts))
  system_stopped shown (Ok a) job source texts short h = tt
  system_stopped shown (Err (stop.Refused refused)) job source texts short h =
      first_of_job shown job source texts refused short (refused_system shown job source texts refused h)
  system_stopped shown (Err stop.OutOfMemory) job source texts short h = tt

  -- and a file that is too long
  first_of_length : (shown : Option Design) (job : Job) (source : Source) (texts : List (List ℕ)) (refused : Refusal) → IsLengthRefusal most (roles_of (OfDesign job source)) texts refused →
      IsFirstRefusalFor most shown (OfDesign job source) texts refused
  first_of_length None job source texts refused h = too_long h
  first_of_length (Some design) job source texts refused h = inl h

  pub design_length : (shown : Option Design) (job : Job) (source : Source) (texts : List (List ℕ)) (roles : List Role) (refused : Refusal) → roles ≡ roles_of (OfDesign job source) → IsLengthRefusal most roles texts refused →
      IsFirstRefusalFor most shown (OfDesign job source) texts refused
  design_length shown job source texts roles refused same h =
      first_of_length shown job source texts refused (subst (λ (x : List Role). IsLengthRefusal most x texts refused) same h)

  -- corners are of files alone
  pub corners_first : (shown : Option Design) (count : ℕ) (texts : List (List ℕ)) (refused : Refusal) → IsFirstRefusal most (Corners count) texts refused →
      IsFirstRefusalFor most shown (Corners count) texts refused
  corners_first None count texts refused h = h
  corners_first (Some design) count texts refused h = h

  pub job_halted : (shown : Option Design) (Q : ℕ → Refusal → Type 0) (job : Job) (source : Source) (texts : List (List ℕ)) (s : Stop) → AreShort most texts → StopsAt (IsJobRefusalFor most shown job source texts) s →
      HaltsAt (IsFirstRefusalFor most shown (OfDesign job source) texts) Q (halt_of s)
  job_halted shown Q job source texts (stop.Refused refused) short h = first_of_job shown job source texts refused short h
  job_halted shown Q job source texts stop.OutOfMemory short h = tt
