-- What holds of refusals and answers.
use Rattle.std.specs.Prelude.{◌≡◌, ◌≤◌, ◌⊎◌, ℕ, List, codes}
use Rattle.mintc_text.specs.declared.limits.Most.{Most}
use Rattle.mintc_text.specs.Limits.{AreLimits}
use Rattle.mintc_text.specs.Lines.{ended}
use Rattle.mintc_timing.specs.Design.{Timing, element_count}
use Rattle.mintc_command_answers.specs.Jobs.{IsJobAnswer}
use Rattle.mintc_command_answers.specs.declared.command.Job.TheVariants.{Optimise, Verify}
use Rattle.mintc_text.specs.declared.refusals.Refusal.{Refusal}
use Rattle.mintc_build.specs.Laws.{IsLoopRefusal}
use Rattle.mintc_command_answers.specs.Answers.{IsDefined, IsFirstRefusal, IsOfCommand}
use Rattle.mintc_command_answers.specs.declared.command.Command.{Command}
use Rattle.mintc_command_answers.specs.declared.status.Status.{Status}
use Rattle.mintc_command_answers.specs.declared.status.Status.TheVariants.{Done, Refused}

-- Where there is a first refusal, its line is the only answer.
abbrev pub RefusalsExcludeAnswers : Type 0
RefusalsExcludeAnswers = (most : Most) (command : Command) (files : List (List ℕ)) (refused : Refusal) (status : Status)
    (text : List ℕ) →
    IsFirstRefusal most command files refused → IsDefined most command files status text → status ≡ Refused

-- There is one first refusal, but for the choice of a loop of arcs.
abbrev pub RefusalsAreDetermined : Type 0
RefusalsAreDetermined = (most : Most) (command : Command) (files : List (List ℕ)) (refused other : Refusal) →
    IsFirstRefusal most command files refused → IsFirstRefusal most command files other → (refused ≡ other)
    ⊎ (IsLoopRefusal refused × IsLoopRefusal other)

-- What `optimise` answers, `verify` calls valid.
abbrev pub OptimaAreVerified : Type 0
OptimaAreVerified = (most : Most) → AreLimits most → (t : Timing) → element_count t.flat ≤ most.elements →
    (file text : List ℕ) (status : Status) → IsJobAnswer most Optimise t file status text →
    IsJobAnswer most Verify t text Done (ended (codes "valid"))

-- A defined answer has the status of an answer: it is done, something is found, or the input is refused.
abbrev pub AnswersAreOfCommands : Type 0
AnswersAreOfCommands = (most : Most) (command : Command) (files : List (List ℕ)) (status : Status)
    (text : List ℕ) → IsDefined most command files status text → IsOfCommand status

-- The defined answers of a command on the same files have one status, whichever chain or loop they name.
abbrev pub StatusesAreDetermined : Type 0
StatusesAreDetermined = (most : Most) (command : Command) (files : List (List ℕ)) (status other : Status)
    (text another : List ℕ) → IsDefined most command files status text → IsDefined most command files other another →
    status ≡ other
