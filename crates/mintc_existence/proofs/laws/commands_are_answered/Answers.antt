use Rattle.mintc_existence.proofs.CommandLaws.{commands_are_answered_lem}
use Rattle.mintc_existence.proofs.laws.commands_are_answered.Goals as goal

pub returns : goal.returns
returns c = commands_are_answered_lem c.tables_have_timings.ensures c.files_have_timings.ensures c.sources_are_answered.ensures c.samples_are_answered.ensures c.corners_are_answered.ensures
