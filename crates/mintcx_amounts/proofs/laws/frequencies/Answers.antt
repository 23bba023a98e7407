use Rattle.mintcx_amounts.proofs.FrequencyLaws.{frequencies_are_below}
use Rattle.mintcx_amounts.proofs.laws.frequencies.Goals as goal

pub returns : goal.returns
returns c = frequencies_are_below
