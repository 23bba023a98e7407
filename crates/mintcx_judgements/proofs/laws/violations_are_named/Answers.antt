use Rattle.mintcx_judgements.proofs.NamedLaws.{violations_are_named_lem}
use Rattle.mintcx_judgements.proofs.laws.violations_are_named.Goals as goal

pub returns : goal.returns
returns c = violations_are_named_lem
