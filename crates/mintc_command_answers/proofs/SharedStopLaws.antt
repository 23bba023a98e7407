-- What stops the texts of a design's source, or the text beside them, stops the command.
use Rattle.std.proofs.Common.{◌≡◌, ℕ, List, subst, Result, Ok, Err, IfErr}
use Rattle.mintc_text.specs.declared.limits.Most.{Most}
use Rattle.mintc_text.specs.declared.refusals.Stop.{Stop}
use Rattle.mintc_text.specs.declared.refusals.Stop.TheVariants as stop
use Rattle.mintc_text.specs.Stops.{StopsAt}
use Rattle.mintc_timing.specs.Design.{Timing}
use Rattle.mintc_command_answers.specs.Answers.{IsContentRefusal, of_design, of_file}
use Rattle.mintc_command_answers.specs.Jobs.{IsFileRefused}
use Rattle.mintc_command_answers.specs.Sources.{Gives, IsSourceRefused, own_file}
use Rattle.mintc_command_answers.specs.declared.command.Command.TheVariants.{OfDesign}
use Rattle.mintc_command_answers.specs.declared.command.Job.{Job}
use Rattle.mintc_command_answers.specs.declared.command.Source.{Source}

-- In a run with these limits.
module _ (most : Most) where
  pub stop_on_source : (job : Job) (source : Source) (texts : List (List ℕ)) (s : Stop) → StopsAt (IsSourceRefused most source texts) s → StopsAt (IsContentRefusal most (OfDesign job source) texts) s
  stop_on_source job source texts (stop.Refused refused) h = of_design h
  stop_on_source job source texts stop.OutOfMemory h = tt

  pub stop_on_file : {A : Type 0} (r : Result A Stop) (job : Job) (source : Source) (texts : List (List ℕ)) (t : Timing) (file : List ℕ) → Gives most source texts t → file ≡ own_file source texts →
      IfErr r (StopsAt (IsFileRefused most job t.flat file)) → IfErr r (StopsAt (IsContentRefusal most (OfDesign job source) texts))
  stop_on_file (Ok a) job source texts t file gives same h = tt
  stop_on_file (Err (stop.Refused refused)) job source texts t file gives same h = of_file t gives (subst (λ f. IsFileRefused most job t.flat f refused) same h)
  stop_on_file (Err stop.OutOfMemory) job source texts t file gives same h = tt
