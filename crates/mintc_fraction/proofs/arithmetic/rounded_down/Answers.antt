use Rattle.std.proofs.Common.{◌≡◌}
use Rattle.std.specs.Int.{int_div_euclid}
use Rattle.std.proofs.lemmas.Int.{to_z-of_z}
use Rattle.mintc_fraction.proofs.Dividing.{div_euclid-low, div_euclid-high, size_of_floor}
use mir.Syntax.{w128}
use mir.Val.{SFits}
use Rattle.mintc_fraction.proofs.arithmetic.rounded_down.Goals as goal

quotient : (c : goal.After-div_euclid) → c.div_euclid.result ≡ int_div_euclid c.args.x c.args.y
quotient c = rw (to_z-of_z w128 c.args.x c.ranges.x, to_z-of_z w128 c.args.y c.ranges.y) at c.div_euclid.ensures

fits : (c : goal.After-div_euclid) → SFits w128 c.div_euclid.result
fits c = record { sfits = c.div_euclid.type_inv }

pub returns-clause-low : goal.returns-clause-low
returns-clause-low c = rw (to_z-of_z w128 c.div_euclid.result (fits c), quotient c) (div_euclid-low c.args.x c.args.y c.requires.y)

pub returns-clause-high : goal.returns-clause-high
returns-clause-high c = rw (to_z-of_z w128 c.div_euclid.result (fits c), quotient c) (div_euclid-high c.args.x c.args.y c.requires.y)

pub returns-clause-bound : goal.returns-clause-bound
returns-clause-bound c =
    rw (to_z-of_z w128 c.div_euclid.result (fits c), quotient c)
    (size_of_floor c.args.x c.args.y (int_div_euclid c.args.x c.args.y) _ c.requires.y (div_euclid-low c.args.x c.args.y c.requires.y) (div_euclid-high c.args.x c.args.y c.requires.y) c.requires.x)
