use Rattle.mintc_answer_laws.proofs.SameLaws.{summaries_lem}
use Rattle.mintc_answer_laws.proofs.laws.summaries_are_the_same.Goals as goal

pub returns : goal.returns
returns c = summaries_lem
    (record {
      tables = c.table_texts_are_plain.ensures.value;
      files = c.files_are_plain.ensures.described;
      liberty = c.files_are_plain.ensures.library;
      pairs = c.pairs_are_determined.ensures;
    })
    c.optima_are_determined.ensures c.answers_are_determined.ensures c.refusals_are_determined.ensures c.statuses_are_determined.ensures
