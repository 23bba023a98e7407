use Rattle.mintc_sdf.proofs.RangeLaws.{delays-within}
use Rattle.mintc_sdf.proofs.laws.delays_are_within.Goals as goal

pub returns : goal.returns
returns c = delays-within
