use Rattle.mintc_fraction.proofs.SharedLowest.{IsLowest-unique}
use Rattle.mintc_fraction.proofs.laws.lowest_terms.Goals as goal

pub returns : goal.returns
returns c = IsLowest-unique
