use Rattle.std.proofs.Common.{refl}
use Rattle.mintc_lanes.proofs.Selecting.{IsVector-from_numbers}
use Rattle.mintc_lanes.proofs.Turning.{four_on, round}
use Rattle.mintc_lanes.proofs.vectors.turned_by_four.Goals as goal

pub returns-clause-vector : goal.returns-clause-vector
returns-clause-vector c =
    IsVector-from_numbers _ _ refl (four_on c.args.x c.requires) (λ k lt. c.requires.fits _ (round k _))

pub returns-clause-numbers : goal.returns-clause-numbers
returns-clause-numbers c = four_on c.args.x c.requires
