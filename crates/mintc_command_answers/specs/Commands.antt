-- The words of commands.
use Rattle.std.specs.Prelude.{◌≡◌, ◌≤◌, ◌<◌, ◌^◌, ℕ, List, [], ◌∷◌, ◌++◌, length, map, replicate, codes, decimal}
use Rattle.std.specs.Prelude.{String}
use Rattle.std.specs.String.{string_bytes}
use Rattle.mintc_text.specs.declared.refusals.Role.{Role}
use Rattle.mintc_text.specs.declared.refusals.Role.TheVariants as role
use Rattle.mintc_command_answers.specs.declared.command.Command.{Command}
use Rattle.mintc_command_answers.specs.declared.command.Command.TheVariants.{OfDesign, Sample, Corners}
use Rattle.mintc_command_answers.specs.declared.command.Job.{Job}
use Rattle.mintc_command_answers.specs.declared.command.Job.TheVariants.{Check, Optimise, Verify, Report, Safe, Slack}
use Rattle.mintc_command_answers.specs.declared.command.Source.{Source}
use Rattle.mintc_command_answers.specs.declared.command.Source.TheVariants.{Table, Files, Liberty}

-- the bytes of each word
abbrev pub bytes_of : {Z : Type 0} → List (String Z) → List (List ℕ)
bytes_of words = map string_bytes words

-- the word of a job
abbrev pub job_word : Job → List ℕ
job_word Check = codes "check"
job_word Optimise = codes "optimise"
job_word Verify = codes "verify"
job_word Report = codes "report"
job_word Safe = codes "safe"
job_word Slack = codes "slack"

-- the word of a source
abbrev pub source_word : Source → List ℕ
source_word Table = codes "table"
source_word Files = codes "files"
source_word Liberty = codes "liberty"

-- what the files of a design hold, in their order
abbrev pub source_roles : Source → List Role
source_roles Table = role.Table ∷ []
source_roles Files = role.Netlist ∷ role.Delays ∷ role.Cells ∷ role.Clock ∷ []
source_roles Liberty = role.Netlist ∷ role.Delays ∷ role.Cells ∷ role.Clock ∷ []

-- what the file holds that stands after those of the design, if there is one
abbrev pub job_roles : Job → List Role
job_roles Check = role.Schedule ∷ []
job_roles Optimise = []
job_roles Verify = role.Certificate ∷ []
job_roles Report = []
job_roles Safe = []
job_roles Slack = []

-- the words that a command begins with
abbrev pub words_of : Command → List (List ℕ)
words_of (OfDesign job source) = job_word job ∷ source_word source ∷ []
words_of (Sample number) = codes "sample" ∷ decimal number ∷ []
words_of (Corners count) = codes "corners" ∷ []

-- The number of a sample is one of 64 bits; delay files are two to four.
abbrev pub IsNumberInRange : Command → Type 0
IsNumberInRange (OfDesign job source) = Unit {0}
IsNumberInRange (Sample number) = number < 2 ^ 64
IsNumberInRange (Corners count) = (2 ≤ count) × (count ≤ 4)

-- what each file that a command names holds, in the order of the words
abbrev pub roles_of : Command → List Role
roles_of (OfDesign job source) = source_roles source ++ job_roles job
roles_of (Sample number) = []
roles_of (Corners count) = role.Netlist ∷ role.Cells ∷ role.Clock ∷ replicate count role.Delays

-- The words are the command's, and then the names of its files, one for each role.
pub record AreWordsOf (command : Command) (names words : List (List ℕ)) : Type 0 where
  pub count : length names ≡ length (roles_of command)
  pub whole : words ≡ words_of command ++ names
  pub in_range : IsNumberInRange command

-- The words are those of some command.
abbrev pub IsCommand : List (List ℕ) → Type 0
IsCommand words = (command : Command) × (names : List (List ℕ)) × AreWordsOf command names words
