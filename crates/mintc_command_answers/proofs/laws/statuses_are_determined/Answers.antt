use Rattle.mintc_command_answers.proofs.DeterminedLaws.{statuses_lem}
use Rattle.mintc_command_answers.proofs.laws.statuses_are_determined.Goals as goal

pub returns : goal.returns
returns c = statuses_lem (record {
  texts = λ most. record {
    one_schedule = c.schedule_texts_are_plain.ensures.value;
    no_schedule_fault = c.schedule_texts_are_plain.ensures.no_fault;
    one_schedule_fault = c.schedule_texts_are_plain.ensures.fault;
    one_design = c.table_texts_are_plain.ensures.value;
    no_table_fault = c.table_texts_are_plain.ensures.no_fault;
    one_table_fault = c.table_texts_are_plain.ensures.fault;
    no_certificate_fault = c.certificate_texts_are_plain.ensures.no_fault most.members;
    one_certificate_fault = c.certificate_texts_are_plain.ensures.fault most.members;
    accepted = c.accepted_designs_are_not_refused.ensures;
    files = c.files_are_plain.ensures.described;
    liberty = c.files_are_plain.ensures.library;
  };
  one_certificate = c.certificate_texts_are_plain.ensures.value;
  one_pairs = c.pairs_are_determined.ensures;
  one_violations = c.violations_are_determined.ensures;
})
