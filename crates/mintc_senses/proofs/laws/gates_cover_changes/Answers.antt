use Rattle.mintc_senses.proofs.SenseLaws.{gate-covers}
use Rattle.mintc_senses.proofs.laws.gates_cover_changes.Goals as goal

pub returns : goal.returns
returns c = gate-covers c.expressions_are_the_texts.ensures.read_back c.senses_cover_changes.ensures
