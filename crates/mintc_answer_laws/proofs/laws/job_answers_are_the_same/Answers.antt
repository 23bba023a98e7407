use Rattle.mintc_answer_laws.proofs.SameLaws.{job_answers_lem}
use Rattle.mintc_answer_laws.proofs.laws.job_answers_are_the_same.Goals as goal

pub returns : goal.returns
returns c = job_answers_lem
    (record {
      tables = c.table_texts_are_plain.ensures.value;
      files = c.files_are_plain.ensures.described;
      liberty = c.files_are_plain.ensures.library;
      pairs = c.pairs_are_determined.ensures;
    })
    (record {
      one_schedule = c.schedule_texts_are_plain.ensures.value;
      schedules = c.schedule_texts_are_their_lines.ensures;
      late = c.late_are_determined.ensures;
      early = c.early_are_determined.ensures;
      violations = c.violations_are_determined.ensures;
      one_certificate = c.certificate_texts_are_plain.ensures.value;
      optima = c.optima_are_determined.ensures;
      safe = c.safe_optima_are_determined.ensures;
      least = c.least_cycle_is_determined.ensures;
      slack = c.slack_is_determined.ensures;
      texts = c.answers_are_determined.ensures;
    })
    c.refusals_are_determined.ensures c.statuses_are_determined.ensures
