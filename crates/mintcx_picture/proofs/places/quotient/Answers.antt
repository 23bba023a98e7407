use Rattle.std.proofs.Common.{◌≡◌}
use Rattle.std.specs.Int.{int_div_euclid}
use Rattle.std.proofs.lemmas.Int.{to_z-of_z}
use mir.Syntax.{w128}
use mir.Val.{SFits}
use Rattle.mintcx_picture.proofs.places.quotient.Goals as goal

exact : (c : goal.After-div_euclid) → c.div_euclid.result ≡ int_div_euclid c.args.x c.args.y
exact c = rw (to_z-of_z w128 c.args.x c.ranges.x, to_z-of_z w128 c.args.y c.ranges.y) at c.div_euclid.ensures

fits : (c : goal.After-div_euclid) → SFits w128 c.div_euclid.result
fits c = record { sfits = c.div_euclid.type_inv }

pub returns : goal.returns
returns c = rw (to_z-of_z w128 c.div_euclid.result (fits c)) (exact c)
