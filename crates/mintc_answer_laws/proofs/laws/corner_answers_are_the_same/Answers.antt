use Rattle.mintc_answer_laws.proofs.JointLaws.{corner_answers_lem}
use Rattle.mintc_answer_laws.proofs.laws.corner_answers_are_the_same.Goals as goal

pub returns : goal.returns
returns c = corner_answers_lem
    (record {
      sources = record {
        tables = c.table_texts_are_plain.ensures.value;
        files = c.files_are_plain.ensures.described;
        liberty = c.files_are_plain.ensures.library;
        pairs = c.pairs_are_determined.ensures;
      };
      systems = c.accepted_designs_have_systems.ensures;
      numbers = c.corners_differ_in_numbers.ensures;
      optima = c.joint_optima_are_determined.ensures;
    })
    c.refusals_are_determined.ensures c.statuses_are_determined.ensures
