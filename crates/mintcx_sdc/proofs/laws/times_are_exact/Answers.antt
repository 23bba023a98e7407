use Rattle.mintcx_sdc.proofs.TimeLaws.{exact_times}
use Rattle.mintcx_sdc.proofs.laws.times_are_exact.Goals as goal

pub returns : goal.returns
returns c = exact_times c.amounts.ensures
