use Rattle.std.proofs.Common.{◌≤◌, ◌<◌, ◌^◌, arith}
use Rattle.std.specs.Prelude.{unsigned_abs}
use Rattle.std.specs.Int.{IsGcd}
use Rattle.std.proofs.lemmas.Int.{ints, to_z-of_z, to_z_pos}
use Rattle.mintc_fraction.proofs.Dividing.{size_of_divisor}
use mir.Syntax.{w128}
use Rattle.mintc_fraction.proofs.arithmetic.greatest_divisor.Goals as goal

divisor : (c : goal.After-euclid) → IsGcd (unsigned_abs c.args.x) (unsigned_abs c.args.y) c.euclid.result
divisor c =
    let x = rw (to_z-of_z w128 c.args.x c.ranges.x) at c.unsigned_abs.ensures.value in
    let y = rw (to_z-of_z w128 c.args.y c.ranges.y) at c.unsigned_abs-2.ensures.value in
    rw (x, y) at c.euclid.ensures

size : (c : goal.After-euclid) → (1 ≤ c.euclid.result) × (c.euclid.result ≤ unsigned_abs c.args.y)
size c = size_of_divisor c.euclid.result (unsigned_abs c.args.y) (omega (arith, ints)) ((divisor c).1)

few : (c : goal.After-euclid) → c.euclid.result < 2 ^ 127
few c = omega (arith, ints, size c)

pub overflow_cast-result : goal.overflow_cast-result
overflow_cast-result c = omega (arith, ints, size c)

pub returns-clause-divisor : goal.returns-clause-divisor
returns-clause-divisor c = rw (to_z_pos w128 c.euclid.result (few c)) (divisor c)

pub returns-clause-positive : goal.returns-clause-positive
returns-clause-positive c = rw (to_z_pos w128 c.euclid.result (few c)) (omega (arith, ints, size c))
