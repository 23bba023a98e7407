use Rattle.mintc_fraction.proofs.Summing.{sums_commute, sums_associate}
use Rattle.mintc_fraction.proofs.laws.sums.Goals as goal

pub returns : goal.returns
returns c = record { commutative = sums_commute; associative = sums_associate }
