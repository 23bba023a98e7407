-- A command is answered where its source has timings and its job has answers.
use Rattle.std.proofs.Common.{◌≡◌, ◌≢◌, ◌<◌, ◌≤◌, ◌++◌, ℕ, List, [], ◌∷◌, length, refl, inl, inr, ◌⊎◌, ⊎_elim, arith}
use Rattle.std.proofs.lemmas.Bool.{cases_lt}
use Rattle.std.proofs.lemmas.List.Elements.{All-nil, All-cons}
use Rattle.mintc_text.specs.Limits.{AreLimits}
use Rattle.mintc_text.specs.declared.limits.Most.{Most}
use Rattle.mintc_text.specs.declared.refusals.Refusal.{Refusal}
use Rattle.mintc_text.specs.declared.refusals.Refusal.TheVariants as refusal
use Rattle.mintc_text.specs.declared.refusals.Role.{Role}
use Rattle.mintc_timing.specs.Design.{Timing}
use Rattle.mintc_timing.specs.Order.{IsTiming}
use Rattle.mintc_command_answers.specs.Answers.{IsDefined, of_contents, of_design, of_file, too_long}
use Rattle.mintc_command_answers.specs.Commands.{IsNumberInRange, job_roles, roles_of, source_roles}
use Rattle.mintc_command_answers.specs.Contents.{sample_texts}
use Rattle.mintc_command_answers.specs.Jobs.{IsFileRefused, IsJobAnswer, IsSummaryAnswer}
use Rattle.mintc_command_answers.specs.Sources.{AreShort, Gives, IsLengthRefusal, IsSourceRefused, own_file}
use Rattle.mintc_command_answers.specs.declared.command.Command.{Command}
use Rattle.mintc_command_answers.specs.declared.command.Command.TheVariants.{Corners, OfDesign, Sample}
use Rattle.mintc_command_answers.specs.declared.command.Job.{Job}
use Rattle.mintc_command_answers.specs.declared.command.Job.TheVariants.{Check, Optimise, Report, Safe, Slack, Verify}
use Rattle.mintc_command_answers.specs.declared.command.Source.{Source}
use Rattle.mintc_command_answers.specs.declared.command.Source.TheVariants.{Files, Liberty, Table}
use Rattle.mintc_command_answers.specs.declared.status.Status.{Status}
use Rattle.mintc_command_answers.specs.declared.status.Status.TheVariants.{Done, Found, Refused, Usage, ReadFault, WriteFault, OutOfMemory}
use Rattle.mintc_existence.specs.Answers.{ChecksHaveAnswers, HasAnswers, OptimaHaveAnswers, SafeOptimaHaveAnswers, SystemsHaveSummaries, VerificationsHaveAnswers}
use Rattle.mintc_existence.specs.Commands.{CommandsAreAnswered, CornersAreAnswered, FilesHaveTimings, HasTimings, IsAnswered, JobsAreAnswered, SamplesAreAnswered, SourcesAreAnswered, TablesAreAnswered, TablesHaveTimings}

-- Files are short, or one is the first that is too long.
pub lengths : (most : Most) (roles : List Role) (files : List (List ℕ)) → length files ≡ length roles → AreShort most files ⊎ ((refused : Refusal) × IsLengthRefusal most roles files refused)
lengths most roles [] many = inl (All-nil (λ (b : List ℕ). length b ≤ most.bytes))
lengths most [] (bytes ∷ files) many = absurd (omega arith)
lengths most (role ∷ roles) (bytes ∷ files) many =
    ⊎_elim
    (λ (long : most.bytes < length bytes). inr (refusal.TooLong role, inl (long, refl)))
    (λ (short : length bytes ≤ most.bytes).
    ⊎_elim
    (λ (rest : AreShort most files). inl (All-cons (λ (b : List ℕ). length b ≤ most.bytes) bytes files short rest))
    (λ (rest : (refused : Refusal) × IsLengthRefusal most roles files refused). inr (rest.0, inr (short, rest.1)))
    (lengths most roles files (omega (arith, many))))
    (cases_lt most.bytes (length bytes))

-- An answer to a job on a timing that files give is the command's; that of a refusal has a text of its own.
defined : (most : Most) (job : Job) (source : Source) (files : List (List ℕ)) (t : Timing) (status : Status) (text : List ℕ) → AreShort most files → Gives most source files t →
    (status ≢ Refused) → IsJobAnswer most job t (own_file source files) status text → IsDefined most (OfDesign job source) files status text
defined most job source files t Refused text short gives other h = absurd (other refl)
defined most job source files t Done text short gives other h = (short, (t, gives, h))
defined most job source files t Found text short gives other h = (short, (t, gives, h))
defined most job source files t Usage text short gives other h = (short, (t, gives, h))
defined most job source files t ReadFault text short gives other h = (short, (t, gives, h))
defined most job source files t WriteFault text short gives other h = (short, (t, gives, h))
defined most job source files t OutOfMemory text short gives other h = (short, (t, gives, h))

pub jobs_are_answered_lem : JobsAreAnswered
jobs_are_answered_lem most job source timings answers files many =
    ⊎_elim
    (λ (short : AreShort most files).
    ⊎_elim
    (λ (given : (t : Timing) × Gives most source files t × IsTiming t.flat t.order t.pairs).
    ⊎_elim
    (λ (refused : (refused : Refusal) × IsFileRefused most job given.0.flat (own_file source files) refused).
    inl (refused.0, of_contents short (of_file given.0 given.1 refused.1)))
    (λ (answer : (status : Status) × (text : List ℕ) × (status ≢ Refused) × IsJobAnswer most job given.0 (own_file source files) status text).
    inr (answer.0, answer.1, defined most job source files given.0 answer.0 answer.1 short given.1 answer.2 answer.3))
    (answers given.0 (own_file source files) given.1.accepted.limits given.2))
    (λ (refused : (refused : Refusal) × IsSourceRefused most source files refused). inl (refused.0, of_contents short (of_design refused.1)))
    (timings files short))
    (λ (long : (refused : Refusal) × IsLengthRefusal most (source_roles source ++ job_roles job) files refused). inl (long.0, too_long long.1))
    (lengths most (source_roles source ++ job_roles job) files many)

-- each job has answers
all_answers : ChecksHaveAnswers → VerificationsHaveAnswers → OptimaHaveAnswers → SafeOptimaHaveAnswers → (most : Most) (job : Job) → HasAnswers most job
all_answers checks verifications optima safes most Check = λ t file limits kept. checks most t file limits kept.extremes
all_answers checks verifications optima safes most Verify = λ t file limits kept. verifications most t file
all_answers checks verifications optima safes most Optimise = (optima most).0
all_answers checks verifications optima safes most Report = (optima most).1
all_answers checks verifications optima safes most Slack = (optima most).2
all_answers checks verifications optima safes most Safe = safes most

pub sources_are_answered_lem : ChecksHaveAnswers → VerificationsHaveAnswers → OptimaHaveAnswers → SafeOptimaHaveAnswers → SourcesAreAnswered
sources_are_answered_lem checks verifications optima safes most source timings job files many =
    jobs_are_answered_lem most job source timings (all_answers checks verifications optima safes most job) files many

pub tables_are_answered_lem : TablesHaveTimings → SourcesAreAnswered → TablesAreAnswered
tables_are_answered_lem timings answered most limits job files many = answered most Table (λ f short. timings most limits f) job files many

-- The summary of a sample is the command's.
summarised : (most : Most) (number : ℕ) (files : List (List ℕ)) (t : Timing) (status : Status) (text : List ℕ) → AreShort most (sample_texts number) → Gives most Files (sample_texts number) t →
    (status ≢ Refused) → IsSummaryAnswer number t status text → IsDefined most (Sample number) files status text
summarised most number files t Refused text short gives other h = absurd (other refl)
summarised most number files t Done text short gives other h = (short, (t, gives, h))
summarised most number files t Found text short gives other h = (short, (t, gives, h))
summarised most number files t Usage text short gives other h = (short, (t, gives, h))
summarised most number files t ReadFault text short gives other h = (short, (t, gives, h))
summarised most number files t WriteFault text short gives other h = (short, (t, gives, h))
summarised most number files t OutOfMemory text short gives other h = (short, (t, gives, h))

pub samples_are_answered_lem : SystemsHaveSummaries → SamplesAreAnswered
samples_are_answered_lem summaries most timings number files =
    ⊎_elim
    (λ (short : AreShort most (sample_texts number)).
    ⊎_elim
    (λ (given : (t : Timing) × Gives most Files (sample_texts number) t × IsTiming t.flat t.order t.pairs).
    let found = summaries number given.0 given.1.accepted.limits given.2 in
    inr (found.0, found.1, summarised most number files given.0 found.0 found.1 short given.1 found.2 found.3))
    (λ (refused : (refused : Refusal) × IsSourceRefused most Files (sample_texts number) refused). inl (refused.0, of_contents short refused.1))
    (timings (sample_texts number) short))
    (λ (long : (refused : Refusal) × IsLengthRefusal most (source_roles Files) (sample_texts number) refused). inl (long.0, too_long long.1))
    (lengths most (source_roles Files) (sample_texts number) refl)

-- each command, by what it is
module _ (tables : TablesHaveTimings) (timings : FilesHaveTimings) (answered : SourcesAreAnswered) (samples : SamplesAreAnswered) (corners : CornersAreAnswered) (most : Most) (limits : AreLimits most) where
  of_source : (source : Source) → HasTimings most source
  of_source Table = λ f short. tables most limits f
  of_source Files = (timings most limits).0
  of_source Liberty = (timings most limits).1

  each : (command : Command) → IsNumberInRange command → (files : List (List ℕ)) → length files ≡ length (roles_of command) → IsAnswered most command files
  each (OfDesign job source) range files many = answered most source (of_source source) job files many
  each (Sample number) range files many = samples most (of_source Files) number files
  each (Corners count) range files many = corners most limits (of_source Files) count files many range.0 range.1

pub commands_are_answered_lem : TablesHaveTimings → FilesHaveTimings → SourcesAreAnswered → SamplesAreAnswered → CornersAreAnswered → CommandsAreAnswered
commands_are_answered_lem tables timings answered samples corners most limits command range files many = each tables timings answered samples corners most limits command range files many
