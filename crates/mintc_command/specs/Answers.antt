-- What a run answers over the files of a shelf, and what it leaves.
use Rattle.std.specs.Prelude.{◌++◌, ◌≡◌, ◌≢◌, ◌≤◌, ◌+◌, ℕ, List, [], Option, Some, None, codes, All}
use Rattle.std.specs.List.{AllZip}
use Rattle.mintc_text.specs.declared.limits.Most.{Most}
use Rattle.mintc_text.specs.Lines.{ended}
use Rattle.mintc_text.specs.Outside.{Files, Holds, IsFront, Takes, TakesFront}
use Rattle.mintc_text.specs.declared.refusals.Refusal.{Refusal}
use Rattle.mintc_command_answers.specs.Answers.{IsDefined, IsFirstRefusal}
use Rattle.mintc_command_answers.specs.Commands.{AreWordsOf, IsCommand}
use Rattle.mintc_command_answers.specs.declared.command.Command.{Command}
use Rattle.mintc_command_answers.specs.declared.status.Status.{Status}
use Rattle.mintc_command_answers.specs.declared.status.Status.TheVariants.{Done, Found, Usage, ReadFault, WriteFault}
use Rattle.mintc_command_answers.specs.declared.status.Status.TheVariants.{OutOfMemory}

-- the line that is written where the words are no command
abbrev pub usage_line : List ℕ
usage_line =
    ended (codes "usage: mintc check|optimise|verify|report|safe|slack table|files|liberty FILE.. | mintc sample N | mintc "
    ++ codes "corners V C K D D..")

-- The words are those of a command that names a file.
abbrev pub NameFile : List (List ℕ) → Type 0
NameFile words = (command : Command) × (names : List (List ℕ)) × AreWordsOf command names words × (names ≢ [])

-- The shelf, where it tells its files, has one of each name.
abbrev pub HoldsAll : Option Files → List (List ℕ) → Type 0
HoldsAll files names = All (Holds files) names

-- These are the first bytes of the files of these names, at most so many of each.
abbrev pub AreFronts : Option Files → ℕ → List (List ℕ) → List (List ℕ) → Type 0
AreFronts files most names fronts = AllZip (λ name front. IsFront files name most front) names fronts

-- Whatever the files of these names are read as, the command refuses none of them in the run.
abbrev pub IsNotRefused : Most → Option Files → Command → List (List ℕ) → Type 0
IsNotRefused most files command names =
    (fronts : List (List ℕ)) (refused : Refusal) → AreFronts files (most.bytes + 1) names fronts →
    IsFirstRefusal most command fronts refused → ⊥

-- The status is that of an answer which isn't a refusal, or memory was wanting.
abbrev pub IsComplete : Status → Type 0
IsComplete Done = Unit {0}
IsComplete Found = Unit {0}
IsComplete OutOfMemory = Unit {0}
IsComplete status = ⊥

-- The words are those of a command with the names of its files. The fronts are their first bytes, one more than a file
-- may have in the run, and this is the defined answer of the command on them.
pub record IsCommandAnswer (most : Most) (words : List (List ℕ)) (files : Option Files) (status : Status)
    (text : List ℕ) : Type 0 where
  pub command : Command
  pub names : List (List ℕ)
  pub are_words : AreWordsOf command names words
  pub fronts : List (List ℕ)
  pub are_fronts : AreFronts files (most.bytes + 1) names fronts
  pub defined : IsDefined most command fronts status text

-- The defined answer of words over a shelf's files: that of their command, or the usage line where they are none.
abbrev pub IsAnswer : Most → List (List ℕ) → Option Files → Status → List ℕ → Type 0
IsAnswer most words files Usage text = (IsCommand words → ⊥) × (text ≡ usage_line)
IsAnswer most words files status text = IsCommandAnswer most words files status text

-- What a run leaves of the bytes that the sink took: with an answer its text at the end, with a failed write a front of
-- an answer's text, and else what there was.
abbrev pub Writes : Most → List (List ℕ) → Option Files → Status → Option (List ℕ) → Option (List ℕ) → Type 0
Writes most words files ReadFault before now = now ≡ before
Writes most words files OutOfMemory before now = now ≡ before
Writes most words files WriteFault before now = (status : Status) × (text : List ℕ)
    × IsAnswer most words files status text
    × TakesFront before now text
Writes most words files status before now = (text : List ℕ) × IsAnswer most words files status text
    × Takes before now text

-- The status is one that comes only after all files were read.
abbrev pub IsAfterReading : Status → Type 0
IsAfterReading Usage = ⊥
IsAfterReading ReadFault = ⊥
IsAfterReading OutOfMemory = ⊥
IsAfterReading status = Unit {0}

-- The status may come where the words are no command.
abbrev pub IsOfNoCommand : Status → Type 0
IsOfNoCommand Usage = Unit {0}
IsOfNoCommand WriteFault = Unit {0}
IsOfNoCommand OutOfMemory = Unit {0}
IsOfNoCommand status = ⊥

-- At most so many calls were made, where calls are told.
abbrev pub MakesAtMost : ℕ → Option ℕ → Option ℕ → Type 0
MakesAtMost count None now = now ≡ None
MakesAtMost count (Some before) now = (after : ℕ) × (now ≡ Some after) × (after ≤ before + count)
