-- What rests on an optimum has an answer on each system.
use Rattle.std.proofs.Common.{◌≢◌, ◌<◌, ◌≤◌, length, refl, inl, inr, ⊎_elim}
use Rattle.std.proofs.lemmas.Bool.{cases_lt}
use Rattle.mintc_text.specs.declared.limits.Most.{Most}
use Rattle.mintc_text.specs.declared.refusals.Refusal.TheVariants as refusal
use Rattle.mintc_text.specs.declared.refusals.Kind.TheVariants as kind
use Rattle.mintc_text.specs.Lines.{text_of}
use Rattle.mintc_timing.specs.Design.{Timing}
use Rattle.mintc_certificate.specs.declared.certificate.Certificate.{Certificate}
use Rattle.mintc_certificate.specs.declared.certificate.Certificate.TheVariants as certificate
use Rattle.mintc_certificate.specs.Written.{lines_of}
use Rattle.mintc_optimise_laws.specs.Existence.{IsBest, OptimaExist}
use Rattle.mintc_safe.specs.declared.certificate.SafeCertificate.{SafeCertificate}
use Rattle.mintc_safe.specs.declared.certificate.SafeCertificate.TheVariants as kept
use Rattle.mintc_safe.specs.SafeText.{safe_lines}
use Rattle.mintc_safe_laws.specs.Existence.{SafeOptimaExist}
use Rattle.mintc_slack.specs.declared.finding.Slacks.{Slacks}
use Rattle.mintc_slack.specs.declared.finding.Slacks.TheVariants as slacks
use Rattle.mintc_slack.specs.SlackText.{slack_lines}
use Rattle.mintc_slack_laws.specs.Existence.{SlacksExist}
use Rattle.mintc_command_answers.specs.Jobs.{IsOptimum, certificate_status, safe_status, slack_status}
use Rattle.mintc_command_answers.specs.declared.command.Job.TheVariants.{Optimise, Report, Slack}
use Rattle.mintc_command_answers.specs.declared.status.Status.TheVariants.{Refused}
use Rattle.mintc_existence.specs.Answers.{HasAnswers, OptimaHaveAnswers, SafeOptimaHaveAnswers, SystemsHaveSummaries}
use Rattle.mintc_existence.proofs.TextLaws.{reports_have_texts_lem, summaries_have_texts_lem}

optimum_of : (t : Timing) (c : Certificate) → IsBest t c → IsOptimum t c
optimum_of t c is = record { valid = is.valid; optimal = is.optimal; earliest = is.earliest; simple = is.simple; in_range = is.in_range; short = is.short }

certificate_answers : (c : Certificate) → certificate_status c ≢ Refused
certificate_answers (certificate.Least s d chain) = λ e. cc
certificate_answers (certificate.Never chain) = λ e. cc

slack_answers : (x : Slacks) → slack_status x ≢ Refused
slack_answers (slacks.Least cycle extra) = λ e. cc
slack_answers slacks.Never = λ e. cc

optimised : OptimaExist → (most : Most) → HasAnswers most Optimise
optimised exist most t file limits kept =
    let best = exist t limits kept in
    inr (certificate_status best.0, text_of (lines_of best.0), certificate_answers best.0, (best.0, optimum_of t best.0 best.1, refl, refl))

reported : OptimaExist → (most : Most) → HasAnswers most Report
reported exist most t file limits kept =
    let best = exist t limits kept in
    let text = reports_have_texts_lem t.flat best.0 best.1.in_range in
    inr (certificate_status best.0, text.0, certificate_answers best.0, (best.0, optimum_of t best.0 best.1, refl, text.1))

slackened : SlacksExist → (most : Most) → HasAnswers most Slack
slackened exist most t file limits kept =
    ⊎_elim
    (λ (many : most.slack < length t.flat.elements). inl (refusal.Limit kind.Elements (length t.flat.elements), (many, refl)))
    (λ (few : length t.flat.elements ≤ most.slack).
    let found = exist t limits kept in
    inr (slack_status found.0, text_of (slack_lines t found.0), slack_answers found.0, (few, (found.0, found.1, refl, refl))))
    (cases_lt most.slack (length t.flat.elements))

pub optima_have_answers_lem : OptimaExist → SlacksExist → OptimaHaveAnswers
optima_have_answers_lem optima found most = (optimised optima most, reported optima most, slackened found most)

pub systems_have_summaries_lem : OptimaExist → SystemsHaveSummaries
systems_have_summaries_lem exist number t limits kept =
    let best = exist t limits kept in
    let text = summaries_have_texts_lem number t best.0 best.1.in_range in
    (certificate_status best.0, text.0, certificate_answers best.0, (best.0, optimum_of t best.0 best.1, refl, text.1))

safe_answers : (c : SafeCertificate) → safe_status c ≢ Refused
safe_answers (kept.Least s d chain) = λ e. cc
safe_answers (kept.Never chain) = λ e. cc

pub safe_optima_have_answers_lem : SafeOptimaExist → SafeOptimaHaveAnswers
safe_optima_have_answers_lem exist most t file limits system =
    let found = exist t limits system in
    inr (safe_status found.0, text_of (safe_lines found.0), safe_answers found.0, (found.0, found.1, refl, refl))
