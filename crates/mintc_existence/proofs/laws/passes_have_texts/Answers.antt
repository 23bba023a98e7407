use Rattle.mintc_existence.proofs.TextLaws.{passes_have_texts_lem}
use Rattle.mintc_existence.proofs.laws.passes_have_texts.Goals as goal

pub returns : goal.returns
returns c = passes_have_texts_lem
