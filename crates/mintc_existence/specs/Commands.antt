-- "One or the other": the bytes of a command's files have a first refusal or a defined answer.
use Rattle.std.specs.Prelude.{◌≡◌, ◌≤◌, ℕ, List, length, ◌++◌, ◌⊎◌}
use Rattle.mintc_text.specs.Limits.{AreLimits}
use Rattle.mintc_text.specs.declared.limits.Most.{Most}
use Rattle.mintc_text.specs.declared.refusals.Refusal.{Refusal}
use Rattle.mintc_timing.specs.Design.{Timing}
use Rattle.mintc_timing.specs.Order.{IsTiming}
use Rattle.mintc_command_answers.specs.Answers.{IsDefined, IsFirstRefusal}
use Rattle.mintc_command_answers.specs.Commands.{IsNumberInRange, job_roles, roles_of, source_roles}
use Rattle.mintc_command_answers.specs.Sources.{AreShort, Gives, IsSourceRefused}
use Rattle.mintc_command_answers.specs.declared.command.Command.{Command}
use Rattle.mintc_command_answers.specs.declared.command.Command.TheVariants.{Corners, OfDesign, Sample}
use Rattle.mintc_command_answers.specs.declared.command.Job.{Job}
use Rattle.mintc_command_answers.specs.declared.command.Source.{Source}
use Rattle.mintc_command_answers.specs.declared.command.Source.TheVariants.{Files, Liberty, Table}
use Rattle.mintc_command_answers.specs.declared.status.Status.{Status}
use Rattle.mintc_existence.specs.Answers.{HasAnswers}

-- In a run with these limits these files of a source give a system, or are refused.
abbrev pub HasTiming : Most → Source → List (List ℕ) → Type 0
HasTiming most source files = ((t : Timing) × Gives most source files t × IsTiming t.flat t.order t.pairs)
    ⊎ ((refused : Refusal) × IsSourceRefused most source files refused)

-- So do all files of which none is too long.
abbrev pub HasTimings : Most → Source → Type 0
HasTimings most source = (files : List (List ℕ)) → AreShort most files → HasTiming most source files

-- Each table gives a system or is refused.
abbrev pub TablesHaveTimings : Type 0
TablesHaveTimings = (most : Most) → AreLimits most → (files : List (List ℕ)) → HasTiming most Table files

-- A netlist, delays, a clock and cells of either form give a system, or are refused.
abbrev pub FilesHaveTimings : Type 0
FilesHaveTimings = (most : Most) → AreLimits most → HasTimings most Files × HasTimings most Liberty

-- The bytes of the command's files have a first refusal or a defined answer.
abbrev pub IsAnswered : Most → Command → List (List ℕ) → Type 0
IsAnswered most command files = ((refused : Refusal) × IsFirstRefusal most command files refused)
    ⊎ ((status : Status) × (text : List ℕ) × IsDefined most command files status text)

-- So it is, where the source has systems and the job has answers, of as many files as the command names.
abbrev pub JobsAreAnswered : Type 0
JobsAreAnswered = (most : Most) (job : Job) (source : Source) → HasTimings most source → HasAnswers most job →
    (files : List (List ℕ)) → length files ≡ length (source_roles source ++ job_roles job) →
    IsAnswered most (OfDesign job source) files

-- Each job has answers. So it is answered where its source has systems,
abbrev pub SourcesAreAnswered : Type 0
SourcesAreAnswered = (most : Most) (source : Source) → HasTimings most source → (job : Job) →
    (files : List (List ℕ)) → length files ≡ length (source_roles source ++ job_roles job) →
    IsAnswered most (OfDesign job source) files

-- and so is each sample, where files have systems.
abbrev pub SamplesAreAnswered : Type 0
SamplesAreAnswered = (most : Most) → HasTimings most Files → (number : ℕ) (files : List (List ℕ)) →
    IsAnswered most (Sample number) files

-- Each job of a table is answered.
abbrev pub TablesAreAnswered : Type 0
TablesAreAnswered = (most : Most) → AreLimits most → (job : Job) → (files : List (List ℕ)) →
    length files ≡ length (source_roles Table ++ job_roles job) → IsAnswered most (OfDesign job Table) files

-- `corners` is answered wherever files have systems, of as many files as it names.
abbrev pub CornersAreAnswered : Type 0
CornersAreAnswered = (most : Most) → AreLimits most → HasTimings most Files → (count : ℕ)
    (files : List (List ℕ)) → length files ≡ length (roles_of (Corners count)) → 2 ≤ count → count ≤ 4 →
    IsAnswered most (Corners count) files

-- In a run the bytes of each command's files, as many as it names, have a first refusal or a defined answer.
abbrev pub CommandsAreAnswered : Type 0
CommandsAreAnswered = (most : Most) → AreLimits most → (command : Command) → IsNumberInRange command →
    (files : List (List ℕ)) → length files ≡ length (roles_of command) → IsAnswered most command files
