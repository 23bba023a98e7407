use Rattle.mintc_existence.proofs.TableLaws.{tables_have_timings_lem}
use Rattle.mintc_existence.proofs.laws.tables_have_timings.Goals as goal

pub returns : goal.returns
returns c = tables_have_timings_lem c.designs_have_systems_or_refusals.ensures c.systems_are_accepted.ensures c.texts_have_designs_or_refusals.ensures
