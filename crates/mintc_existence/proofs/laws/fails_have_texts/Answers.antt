use Rattle.mintc_existence.proofs.TextLaws.{fails_have_texts_lem}
use Rattle.mintc_existence.proofs.laws.fails_have_texts.Goals as goal

pub returns : goal.returns
returns c = fails_have_texts_lem
