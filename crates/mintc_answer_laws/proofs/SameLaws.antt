-- Two answers to a command on the same files are the same but for what is free.
use Rattle.std.proofs.Common.{◌≡◌, ℕ, List, sym, subst}
use Rattle.mintc_text.specs.declared.limits.Most.{Most}
use Rattle.mintc_report.specs.Laws.{AnswersAreDetermined}
use Rattle.mintc_command_answers.specs.Answers.{IsContentAnswer, IsDefined}
use Rattle.mintc_command_answers.specs.Contents.{sample_texts}
use Rattle.mintc_command_answers.specs.Laws.{RefusalsAreDetermined, StatusesAreDetermined}
use Rattle.mintc_command_answers.specs.Optima.{OptimaAreDetermined}
use Rattle.mintc_command_answers.specs.Sources.{own_file}
use Rattle.mintc_command_answers.specs.declared.command.Command.TheVariants.{OfDesign, Sample}
use Rattle.mintc_command_answers.specs.declared.command.Job.{Job}
use Rattle.mintc_command_answers.specs.declared.command.Source.{Source}
use Rattle.mintc_command_answers.specs.declared.command.Source.TheVariants.{Files}
use Rattle.mintc_command_answers.specs.declared.status.Status.{Status}
use Rattle.mintc_command_answers.specs.declared.status.Status.TheVariants.{Done, Found, Refused, Usage, ReadFault, WriteFault, OutOfMemory}
use Rattle.mintc_answer_laws.specs.Free.{AreSameAnswers, AreSameButFree, AreSameSummaries, JobAnswersAreTheSame, SummariesAreTheSame}
use Rattle.mintc_answer_laws.proofs.GivenLaws.{AreSourceLaws, alike_back, given_alike, given_ends}
use Rattle.mintc_answer_laws.proofs.JobLaws.{AreJobLaws, job_same, summary_same}
use Rattle.mintc_answer_laws.proofs.OrderLaws.{job_in_each_order, optimum_in_each_order, summary_in_each_order}

-- The answers to a job on files that give a timing.
content_same : AreSourceLaws → AreJobLaws → (most : Most) (job : Job) (from : Source) (texts : List (List ℕ)) (status : Status) (text another : List ℕ) →
    IsContentAnswer most (OfDesign job from) texts status text → IsContentAnswer most (OfDesign job from) texts status another → AreSameButFree job text another
content_same sources law most job from texts status text another (t, gives, h) (u, gives_too, g) =
    let alike = alike_back t u (given_alike sources most from texts t u gives gives_too) in
    job_same law most job t (own_file from texts) status text another gives.accepted.limits (given_ends most from texts t gives) h
    (job_in_each_order most job (own_file from texts) status another u t alike.flat alike.pairs g)

job_answers : AreSourceLaws → AreJobLaws → RefusalsAreDetermined → (most : Most) (job : Job) (from : Source) (files : List (List ℕ)) (status : Status) (text another : List ℕ) →
    IsDefined most (OfDesign job from) files status text → IsDefined most (OfDesign job from) files status another → AreSameAnswers job status text another
job_answers sources law refusals most job from files Refused text another h g = (h.0, g.0, refusals most (OfDesign job from) files h.0 g.0 h.1 g.1, h.2, g.2)
job_answers sources law refusals most job from files Done text another h g = content_same sources law most job from files Done text another h.1 g.1
job_answers sources law refusals most job from files Found text another h g = content_same sources law most job from files Found text another h.1 g.1
job_answers sources law refusals most job from files Usage text another h g = content_same sources law most job from files Usage text another h.1 g.1
job_answers sources law refusals most job from files ReadFault text another h g = content_same sources law most job from files ReadFault text another h.1 g.1
job_answers sources law refusals most job from files WriteFault text another h g = content_same sources law most job from files WriteFault text another h.1 g.1
job_answers sources law refusals most job from files OutOfMemory text another h g = content_same sources law most job from files OutOfMemory text another h.1 g.1

pub job_answers_lem : AreSourceLaws → AreJobLaws → RefusalsAreDetermined → StatusesAreDetermined → JobAnswersAreTheSame
job_answers_lem sources law refusals statuses most job from files status other text another h g =
    let same : status ≡ other = statuses most (OfDesign job from) files status other text another h g in
    let turned : IsDefined most (OfDesign job from) files status another = subst (λ (x : Status). IsDefined most (OfDesign job from) files x another) (sym same) g in
    (same, job_answers sources law refusals most job from files status text another h turned)

-- The answers to a sample, whose texts are those of its number.
sample_same : AreSourceLaws → OptimaAreDetermined → AnswersAreDetermined → (most : Most) (number : ℕ) (texts : List (List ℕ)) (status : Status) (text another : List ℕ) →
    IsContentAnswer most (Sample number) texts status text → IsContentAnswer most (Sample number) texts status another → text ≡ another
sample_same sources optima written most number texts status text another (t, gives, (c, is, e, w)) (u, gives_too, (d, is_too, f, v)) =
    let alike = alike_back t u (given_alike sources most Files texts t u gives gives_too) in
    summary_same optima written number t c d text another gives.accepted.limits (given_ends most Files texts t gives) is
    (optimum_in_each_order d u t alike.flat alike.pairs is_too) w (summary_in_each_order number d another u t alike.flat alike.pairs v)

sample_answers : AreSourceLaws → OptimaAreDetermined → AnswersAreDetermined → RefusalsAreDetermined → (most : Most) (number : ℕ) (files : List (List ℕ)) (status : Status) (text another : List ℕ) →
    IsDefined most (Sample number) files status text → IsDefined most (Sample number) files status another → AreSameSummaries status text another
sample_answers sources optima written refusals most number files Refused text another h g = (h.0, g.0, refusals most (Sample number) files h.0 g.0 h.1 g.1, h.2, g.2)
sample_answers sources optima written refusals most number files Done text another h g = sample_same sources optima written most number (sample_texts number) Done text another h.1 g.1
sample_answers sources optima written refusals most number files Found text another h g = sample_same sources optima written most number (sample_texts number) Found text another h.1 g.1
sample_answers sources optima written refusals most number files Usage text another h g = sample_same sources optima written most number (sample_texts number) Usage text another h.1 g.1
sample_answers sources optima written refusals most number files ReadFault text another h g = sample_same sources optima written most number (sample_texts number) ReadFault text another h.1 g.1
sample_answers sources optima written refusals most number files WriteFault text another h g = sample_same sources optima written most number (sample_texts number) WriteFault text another h.1 g.1
sample_answers sources optima written refusals most number files OutOfMemory text another h g = sample_same sources optima written most number (sample_texts number) OutOfMemory text another h.1 g.1

pub summaries_lem : AreSourceLaws → OptimaAreDetermined → AnswersAreDetermined → RefusalsAreDetermined → StatusesAreDetermined → SummariesAreTheSame
summaries_lem sources optima written refusals statuses most number files status other text another h g =
    let same : status ≡ other = statuses most (Sample number) files status other text another h g in
    let turned : IsDefined most (Sample number) files status another = subst (λ (x : Status). IsDefined most (Sample number) files x another) (sym same) g in
    (same, sample_answers sources optima written refusals most number files status text another h turned)
