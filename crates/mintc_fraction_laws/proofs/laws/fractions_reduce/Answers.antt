use Rattle.mintc_fraction_laws.proofs.SharedReducing.{fractions_reduce_lem}
use Rattle.mintc_fraction_laws.proofs.laws.fractions_reduce.Goals as goal

pub returns : goal.returns
returns c = fractions_reduce_lem
