use Rattle.mintc_command_answers.proofs.RefusalLaws.{determined_lem}
use Rattle.mintc_command_answers.proofs.laws.refusals_are_determined.Goals as goal

pub returns : goal.returns
returns c = determined_lem
    (λ most. record {
      one_schedule = c.schedule_texts_are_plain.ensures.value;
      no_schedule_fault = c.schedule_texts_are_plain.ensures.no_fault;
      one_schedule_fault = c.schedule_texts_are_plain.ensures.fault;
      one_design = c.table_texts_are_plain.ensures.value;
      no_table_fault = c.table_texts_are_plain.ensures.no_fault;
      one_table_fault = c.table_texts_are_plain.ensures.fault;
      no_certificate_fault = c.certificate_texts_are_plain.ensures.no_fault most.members;
      one_certificate_fault = c.certificate_texts_are_plain.ensures.fault most.members;
      accepted = c.accepted_designs_are_not_refused.ensures;
      files = c.files_are_plain.ensures.described;
      liberty = c.files_are_plain.ensures.library;
    })
    c.design_refusals_are_determined.ensures
