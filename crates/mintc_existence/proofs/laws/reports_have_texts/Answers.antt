use Rattle.mintc_existence.proofs.TextLaws.{reports_have_texts_lem}
use Rattle.mintc_existence.proofs.laws.reports_have_texts.Goals as goal

pub returns : goal.returns
returns c = reports_have_texts_lem
