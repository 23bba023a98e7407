use Rattle.mintc_sdf_tokens.proofs.SpellLaws.{written, read_back}
use Rattle.mintc_sdf_tokens.proofs.laws.items_are_the_tokens.Goals as goal

pub returns : goal.returns
returns c = record { written = written; read_back = read_back }
