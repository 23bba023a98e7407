use Rattle.mintc_fraction.proofs.Rounding.{floor_at_most_ceiling, same_on_grid}
use Rattle.mintc_fraction.proofs.laws.rounding.Goals as goal

pub returns : goal.returns
returns c = record { ordered = floor_at_most_ceiling; exact = same_on_grid }
