use Rattle.std.proofs.Common.{◌^◌, ◌*ℤ◌, lit<, arith}
use Rattle.std.proofs.lemmas.Int.{to_z-of_z, fits_signed_mul, unsigned_abs-mul}
use Rattle.std.proofs.lemmas.Nat.{mul-le}
use mir.Syntax.{w128}
use Rattle.mintc_fraction.proofs.arithmetic.product.Goals as goal

pub returns-clause-value : goal.returns-clause-value
returns-clause-value c =
    let fits = fits_signed_mul w128 c.args.x c.args.y (10 ^ 24) (10 ^ 12) c.requires.x c.requires.y (lit< tt) in
    rw (to_z-of_z w128 c.args.x c.ranges.x, to_z-of_z w128 c.args.y c.ranges.y) (to_z-of_z w128 (c.args.x *ℤ c.args.y) fits)

pub returns-clause-bound : goal.returns-clause-bound
returns-clause-bound c =
    let fits = fits_signed_mul w128 c.args.x c.args.y (10 ^ 24) (10 ^ 12) c.requires.x c.requires.y (lit< tt) in
    rw (to_z-of_z w128 c.args.x c.ranges.x, to_z-of_z w128 c.args.y c.ranges.y, to_z-of_z w128 (c.args.x *ℤ c.args.y) fits)
    (omega (arith, unsigned_abs-mul c.args.x c.args.y, mul-le _ _ (10 ^ 24) (10 ^ 12) c.requires.x c.requires.y))
