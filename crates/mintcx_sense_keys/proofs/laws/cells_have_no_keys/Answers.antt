use Rattle.mintcx_sense_keys.proofs.NoKeysLaws.{no_keys_lem}
use Rattle.mintcx_sense_keys.proofs.laws.cells_have_no_keys.Goals as goal

pub returns : goal.returns
returns c = no_keys_lem
