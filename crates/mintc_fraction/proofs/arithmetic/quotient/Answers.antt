use Rattle.std.proofs.Common.{arith}
use Rattle.std.proofs.lemmas.Int.{ints, quot_fits, quot_is}
use Rattle.mintc_fraction.proofs.Dividing.{div-exact}
use mir.Syntax.{w128}
use Rattle.mintc_fraction.proofs.arithmetic.quotient.Goals as goal

pub returns : goal.returns
returns c =
    let fits = quot_fits w128 c.args.x c.args.y c.ranges.x (omega (arith, ints)) in
    rw (quot_is w128 c.args.x c.args.y c.ranges.x c.ranges.y fits) (div-exact c.args.x c.args.y c.requires.y c.requires.exact)
