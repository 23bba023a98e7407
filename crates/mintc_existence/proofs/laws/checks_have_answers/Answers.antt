use Rattle.mintc_existence.proofs.CheckLaws.{checks_have_answers_lem}
use Rattle.mintc_existence.proofs.laws.checks_have_answers.Goals as goal

pub returns : goal.returns
returns c = checks_have_answers_lem c.schedules_have_violations.ensures c.schedule_texts_are_their_lines.ensures c.texts_have_schedules_or_faults.ensures
