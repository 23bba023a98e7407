use Rattle.mintc_existence.proofs.TextLaws.{summaries_have_texts_lem}
use Rattle.mintc_existence.proofs.laws.summaries_have_texts.Goals as goal

pub returns : goal.returns
returns c = summaries_have_texts_lem
