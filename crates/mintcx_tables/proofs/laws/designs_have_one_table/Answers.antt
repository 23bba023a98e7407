use Rattle.mintcx_tables.proofs.TableLaws.{one_table}
use Rattle.mintcx_tables.proofs.laws.designs_have_one_table.Goals as goal

pub returns : goal.returns
returns c = one_table c.texts_are_canonical.ensures.table
