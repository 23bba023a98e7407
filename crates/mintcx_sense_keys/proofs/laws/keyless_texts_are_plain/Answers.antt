use Rattle.mintcx_sense_keys.proofs.KeylessLaws.{keyless_lem}
use Rattle.mintcx_sense_keys.proofs.laws.keyless_texts_are_plain.Goals as goal

pub returns : goal.returns
returns c = keyless_lem
