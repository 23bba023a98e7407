-- Four files give a system, or are refused, where their designs have their parts in range.
use Rattle.std.proofs.Common.{◌≤◌, ℕ, List, [], ◌∷◌, length, inr, ⊎_elim, arith}
use Rattle.mintc_text.specs.Limits.{AreLimits}
use Rattle.mintc_text.specs.declared.limits.Most.{Most}
use Rattle.mintc_text.specs.declared.limits.TheConstants.{MOST_BYTES}
use Rattle.mintc_text.specs.declared.refusals.Refusal.{Refusal}
use Rattle.mintc_timing.specs.Accepted.{SystemsAreAccepted}
use Rattle.mintc_timing.specs.Design.{Design}
use Rattle.mintc_build.specs.FilesDesign.{IsFilesDesign, IsFilesRefusal, IsLibertyDesign, IsLibertyRefusal, described_by, library_by}
use Rattle.mintc_build.specs.Laws.{DesignsHaveSystemsOrRefusals, FilesHaveDesignOrRefusal}
use Rattle.mintc_build_laws.specs.Sound.{DesignsAreSound}
use Rattle.mintc_command_answers.specs.Sources.{AreShort, file_at, no_design}
use Rattle.mintc_command_answers.specs.declared.command.Source.TheVariants.{Files, Liberty}
use Rattle.mintc_existence.specs.Commands.{FilesHaveTimings, HasTimings}
use Rattle.mintc_existence.proofs.TableLaws.{given}

module _ (systems : DesignsHaveSystemsOrRefusals) (accepted : SystemsAreAccepted) (most : Most) (limits : AreLimits most) where
  -- a netlist that isn't too long for the run isn't too long for any
  first_short : (files : List (List ℕ)) → AreShort most files → length (file_at files 0) ≤ MOST_BYTES
  first_short [] short = omega arith
  first_short (v ∷ files) short = omega (arith, short 0 v (omega arith), limits.bytes)

  described : FilesHaveDesignOrRefusal described_by → DesignsAreSound described_by → HasTimings most Files
  described read sound files short =
      ⊎_elim
      (λ (some : (d : Design) × IsFilesDesign most (file_at files 0) (file_at files 1) (file_at files 2) (file_at files 3) d).
      given systems accepted most limits Files files some.0 some.1 (sound most (file_at files 0) (file_at files 1) (file_at files 2) (file_at files 3) some.0 limits (first_short files short) some.1) some.1.annotated.within)
      (λ (stop : (r : Refusal) × IsFilesRefusal most (file_at files 0) (file_at files 1) (file_at files 2) (file_at files 3) r). inr (stop.0, no_design stop.1))
      (read most (file_at files 0) (file_at files 1) (file_at files 2) (file_at files 3))

  library : FilesHaveDesignOrRefusal library_by → DesignsAreSound library_by → HasTimings most Liberty
  library read sound files short =
      ⊎_elim
      (λ (some : (d : Design) × IsLibertyDesign most (file_at files 0) (file_at files 1) (file_at files 2) (file_at files 3) d).
      given systems accepted most limits Liberty files some.0 some.1 (sound most (file_at files 0) (file_at files 1) (file_at files 2) (file_at files 3) some.0 limits (first_short files short) some.1) some.1.annotated.within)
      (λ (stop : (r : Refusal) × IsLibertyRefusal most (file_at files 0) (file_at files 1) (file_at files 2) (file_at files 3) r). inr (stop.0, no_design stop.1))
      (read most (file_at files 0) (file_at files 1) (file_at files 2) (file_at files 3))

pub files_have_timings_lem : DesignsHaveSystemsOrRefusals → SystemsAreAccepted → FilesHaveDesignOrRefusal described_by → FilesHaveDesignOrRefusal library_by → DesignsAreSound described_by → DesignsAreSound library_by → FilesHaveTimings
files_have_timings_lem systems accepted one other sound other_sound most limits = (described systems accepted most limits one sound, library systems accepted most limits other other_sound)
