-- What an answer speaks of: the design that files give, or one at hand in its place.
use Rattle.std.specs.Prelude.{◌⊎◌, ℕ, List, Option, Some, None}
use Rattle.mintc_text.specs.declared.limits.Most.{Most}
use Rattle.mintc_text.specs.declared.refusals.Refusal.{Refusal}
use Rattle.mintc_timing.specs.Design.{Design, Timing}
use Rattle.mintc_build.specs.Designs.{IsDesignRefusal}
use Rattle.mintc_command_answers.specs.Answers.{IsFirstRefusal, IsJobRefusal}
use Rattle.mintc_command_answers.specs.Commands.{roles_of}
use Rattle.mintc_command_answers.specs.Jobs.{IsFileRefused}
use Rattle.mintc_command_answers.specs.Sources.{AreShort, Gives, IsLengthRefusal, IsSourceRefused, IsSystemOf, own_file}
use Rattle.mintc_command_answers.specs.declared.command.Command.{Command}
use Rattle.mintc_command_answers.specs.declared.command.Command.TheVariants.{OfDesign}
use Rattle.mintc_command_answers.specs.declared.command.Job.{Job}
use Rattle.mintc_command_answers.specs.declared.command.Source.{Source}

-- The timing that is spoken of: that of the design at hand, or else the one that files give.
abbrev pub IsSystemFor : Most → Option Design → Source → List (List ℕ) → Timing → Type 0
IsSystemFor most None from files t = Gives most from files t
IsSystemFor most (Some design) from files t = IsSystemOf most design t

-- Why there is none: the design at hand has no system, or else files are refused.
abbrev pub HasNoSystem : Most → Option Design → Source → List (List ℕ) → Refusal → Type 0
HasNoSystem most None from files refused = IsSourceRefused most from files refused
HasNoSystem most (Some design) from files refused = IsDesignRefusal most design refused

-- The refusal of a job on texts that aren't too long: of the design at hand and then of the text beside it, or else
-- mintc's own.
abbrev pub IsJobRefusalFor : Most → Option Design → Job → Source → List (List ℕ) → Refusal → Type 0
IsJobRefusalFor most None job from texts refused = IsJobRefusal most job from texts refused
IsJobRefusalFor most (Some design) job from texts refused = IsDesignRefusal most design refused
    ⊎ ((t : Timing) × IsSystemOf most design t × IsFileRefused most job t.flat (own_file from texts) refused)

-- The first refusal of a command on the bytes of its files: of a design at hand that of the first file that is too
-- long, or so it is of its job; or else mintc's own.
abbrev pub IsFirstRefusalFor : Most → Option Design → Command → List (List ℕ) → Refusal → Type 0
IsFirstRefusalFor most None command files refused = IsFirstRefusal most command files refused
IsFirstRefusalFor most (Some design) (OfDesign job from) files refused =
    IsLengthRefusal most (roles_of (OfDesign job from)) files refused
    ⊎ (AreShort most files × IsJobRefusalFor most (Some design) job from files refused)
IsFirstRefusalFor most (Some design) command files refused = IsFirstRefusal most command files refused
