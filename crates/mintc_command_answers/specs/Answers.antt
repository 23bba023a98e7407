-- What is answered to a command on the bytes of its files: the first refusal, and the defined answer.
use Rattle.std.specs.Prelude.{◌≡◌, ◌≤◌, ◌++◌, ℕ, List}
use Rattle.mintc_text.specs.declared.limits.Most.{Most}
use Rattle.mintc_text.specs.declared.refusals.Refusal.{Refusal}
use Rattle.mintc_text.specs.declared.refusals.Refusal.TheVariants as refusal
use Rattle.mintc_text.specs.Refusals.{refusal_line}
use Rattle.mintc_timing.specs.Design.{Timing}
use Rattle.mintc_command_answers.specs.Contents.{content_roles, contents_of}
use Rattle.mintc_command_answers.specs.Corners.{AreGiven, IsCornersAnswer, IsCornersRefusal, IsFirstRefused, corners_of}
use Rattle.mintc_command_answers.specs.Corners.{elements_together}
use Rattle.mintc_command_answers.specs.Jobs.{IsJobAnswer, IsFileRefused, IsSummaryAnswer}
use Rattle.mintc_command_answers.specs.Sources.{AreShort, IsLengthRefusal, Gives, IsSourceRefused, own_file}
use Rattle.mintc_command_answers.specs.declared.command.Command.{Command}
use Rattle.mintc_command_answers.specs.declared.command.Command.TheVariants.{OfDesign, Sample, Corners}
use Rattle.mintc_command_answers.specs.declared.command.Job.{Job}
use Rattle.mintc_command_answers.specs.declared.command.Source.{Source}
use Rattle.mintc_command_answers.specs.declared.command.Source.TheVariants as source
use Rattle.mintc_command_answers.specs.declared.status.Status.{Status}
use Rattle.mintc_command_answers.specs.declared.status.Status.TheVariants.{Done, Found, Refused}

-- The refusal of a job on texts that aren't too long: of the design's, and then of the file beside them.
pub data IsJobRefusal (most : Most) (job : Job) (from : Source) (texts : List (List ℕ)) (refused : Refusal) :
    Type 0 where
  of_design : IsSourceRefused most from texts refused → IsJobRefusal most job from texts refused
  of_file : (t : Timing) → Gives most from texts t → IsFileRefused most job t.flat (own_file from texts) refused →
      IsJobRefusal most job from texts refused

-- The refusal of a command on texts that aren't too long.
abbrev pub IsContentRefusal : Most → Command → List (List ℕ) → Refusal → Type 0
IsContentRefusal most (OfDesign job from) texts refused = IsJobRefusal most job from texts refused
IsContentRefusal most (Sample number) texts refused = IsSourceRefused most source.Files texts refused
IsContentRefusal most (Corners count) texts refused = IsCornersRefusal most (corners_of texts) refused

-- The first refusal of a command on the texts that it works on, in the order of a run.
pub data IsRefusalOn (most : Most) (command : Command) (texts : List (List ℕ)) (refused : Refusal) : Type 0 where
  too_long : IsLengthRefusal most (content_roles command) texts refused → IsRefusalOn most command texts refused
  of_contents : AreShort most texts → IsContentRefusal most command texts refused →
      IsRefusalOn most command texts refused

-- The first refusal of a command on the first bytes of its files.
abbrev pub IsFirstRefusal : Most → Command → List (List ℕ) → Refusal → Type 0
IsFirstRefusal most command files refused = IsRefusalOn most command (contents_of command files) refused

-- The answer of a command on texts of which none is refused: a status and a text.
abbrev pub IsContentAnswer : Most → Command → List (List ℕ) → Status → List ℕ → Type 0
IsContentAnswer most (OfDesign job from) texts status text = (t : Timing) × Gives most from texts t
    × IsJobAnswer most job t (own_file from texts) status text
IsContentAnswer most (Sample number) texts status text = (t : Timing) × Gives most source.Files texts t
    × IsSummaryAnswer number t status text
IsContentAnswer most (Corners count) texts status text =
    (ts : List Timing) × AreGiven most (corners_of texts) ts × (elements_together ts ≤ most.elements)
    × IsCornersAnswer ts status text

-- The text of a refusal is its line; for a corner that line, and then the line of the refusal of the corner's own
-- files.
abbrev pub IsRefusalText : Most → Command → List (List ℕ) → Refusal → List ℕ → Type 0
IsRefusalText most (Corners count) texts (refusal.Corner corner) text =
    (own : Refusal) × IsFirstRefused most (corners_of texts) 1 corner own
    × (text ≡ refusal_line (refusal.Corner corner) ++ refusal_line own)
IsRefusalText most command texts refused text = text ≡ refusal_line refused

-- The answer of a command on the texts that it works on: the text of the first refusal, or what is answered where
-- there is none.
abbrev pub IsAnswerOn : Most → Command → List (List ℕ) → Status → List ℕ → Type 0
IsAnswerOn most command texts Refused text = (refused : Refusal) × IsRefusalOn most command texts refused
    × IsRefusalText most command texts refused text
IsAnswerOn most command texts status text = AreShort most texts × IsContentAnswer most command texts status text

-- The defined answer of a command on the first bytes of its files.
abbrev pub IsDefined : Most → Command → List (List ℕ) → Status → List ℕ → Type 0
IsDefined most command files status text = IsAnswerOn most command (contents_of command files) status text

-- The status is that of an answer to a command.
abbrev pub IsOfCommand : Status → Type 0
IsOfCommand Done = Unit {0}
IsOfCommand Found = Unit {0}
IsOfCommand Refused = Unit {0}
IsOfCommand status = ⊥
