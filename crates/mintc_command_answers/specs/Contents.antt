-- The texts that a command works on: the bytes of its files, or those of its sample.
use Rattle.std.specs.Prelude.{ℕ, List, [], ◌∷◌, ◌++◌}
use Rattle.mintc_text.specs.declared.refusals.Role.{Role}
use Rattle.mintc_sample.specs.Samples.{netlist_text, delays_text, cells_text, clock_text}
use Rattle.mintc_command_answers.specs.Commands.{job_roles, source_roles, roles_of}
use Rattle.mintc_command_answers.specs.declared.command.Command.{Command}
use Rattle.mintc_command_answers.specs.declared.command.Command.TheVariants.{OfDesign, Sample, Corners}
use Rattle.mintc_command_answers.specs.declared.command.Source.TheVariants.{Files}

-- the four texts of the sample of a number, in the order of the files that they stand for
abbrev pub sample_texts : ℕ → List (List ℕ)
sample_texts number = netlist_text ∷ delays_text number ∷ cells_text ∷ clock_text ∷ []

-- the texts that a command works on: those of its files, or of its sample
abbrev pub contents_of : Command → List (List ℕ) → List (List ℕ)
contents_of (OfDesign job source) files = files
contents_of (Sample number) files = sample_texts number
contents_of (Corners count) files = files

-- what each of them holds
abbrev pub content_roles : Command → List Role
content_roles (OfDesign job source) = source_roles source ++ job_roles job
content_roles (Sample number) = source_roles Files
content_roles (Corners count) = roles_of (Corners count)
