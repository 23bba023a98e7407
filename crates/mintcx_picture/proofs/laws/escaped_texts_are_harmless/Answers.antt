use Rattle.mintcx_picture.proofs.EscapeLaws.{harmless}
use Rattle.mintcx_picture.proofs.laws.escaped_texts_are_harmless.Goals as goal

pub returns : goal.returns
returns c = harmless
