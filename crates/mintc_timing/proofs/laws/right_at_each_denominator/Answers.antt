use Rattle.mintc_timing.proofs.Scaling.{right_at_each_denominator_lem}
use Rattle.mintc_timing.proofs.laws.right_at_each_denominator.Goals as goal

pub returns : goal.returns
returns c = right_at_each_denominator_lem
