use Rattle.std.proofs.Common.{◌∙◌, refl}
use Rattle.mintc_lanes.proofs.Selecting.{length-bits_of, length-selected, length-differences, IsVector-from_numbers, greater_at, SFits-int_max, bits_of, is_below, differences, zeros}
use Rattle.mintc_lanes.proofs.vectors.greater.Goals as goal

pub returns-clause-vector : goal.returns-clause-vector
returns-clause-vector c =
    let x = c.args.x in
    let y = c.args.y in
    let lx = length-bits_of x ∙ c.requires.x.count in
    let ly = length-bits_of y ∙ c.requires.y.count in
    IsVector-from_numbers _ _ (length-selected is_below (differences (bits_of x) (bits_of y)) zeros (bits_of y) (bits_of x) (length-differences (bits_of x) (bits_of y) lx ly) refl ly lx) (greater_at x y c.requires.x c.requires.y c.requires.near)
    (λ k lt. SFits-int_max _ _ (c.requires.x.fits k lt) (c.requires.y.fits k lt))

pub returns-clause-numbers : goal.returns-clause-numbers
returns-clause-numbers c = greater_at c.args.x c.args.y c.requires.x c.requires.y c.requires.near
