use Rattle.mintc_existence.proofs.CommandLaws.{tables_are_answered_lem}
use Rattle.mintc_existence.proofs.laws.tables_are_answered.Goals as goal

pub returns : goal.returns
returns c = tables_are_answered_lem c.tables_have_timings.ensures c.sources_are_answered.ensures
