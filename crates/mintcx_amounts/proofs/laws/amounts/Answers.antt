use Rattle.mintcx_amounts.proofs.AmountLaws.{amounts_are_near}
use Rattle.mintcx_amounts.proofs.laws.amounts.Goals as goal

pub returns : goal.returns
returns c = amounts_are_near
