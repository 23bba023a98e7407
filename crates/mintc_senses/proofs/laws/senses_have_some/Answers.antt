use Rattle.mintc_senses.proofs.SenseLaws.{sense-good}
use Rattle.mintc_senses.proofs.laws.senses_have_some.Goals as goal

pub returns : goal.returns
returns c = sense-good
