use Rattle.std.proofs.Common.{◌≡◌, ◌*ℤ◌, ap, refl, rules}
use Rattle.std.proofs.lemmas.Int.{to_z-of_z}
use Rattle.mintc_fraction.specs.Ratio.{Ratio}
use Rattle.mintc_fraction.proofs.Reading.{read_product}
use Rattle.mintc_fraction.proofs.Summing.{product-within}
use mir.Syntax.{w128}
use mir.Val.{SFits}
use Rattle.mintc_fraction.proofs.fraction.Fraction.scale.Goals as goal

pub returns-clause-bounds : goal.returns-clause-bounds
returns-clause-bounds c = λ n d k h small.
    let a = c.args.self.now in
    let den : c.self.inside.den ≡ a.den = ap (λ (x : Ratio). x.den) c.self.view_is in
    let fits_den : SFits w128 c.self.inside.den = search rules in
    let fits : SFits w128 c.product.result = search rules in
    let value : c.product.result ≡ a.num *ℤ c.args.by =
    read_product c.self.inside.num c.args.by a.num c.args.by c.product.result (search rules) c.ranges.by
    (ap (λ (x : Ratio). x.num) c.self.view_is) refl c.product.ensures.value in
    rw (to_z-of_z w128 c.product.result fits, to_z-of_z w128 c.self.inside.den fits_den, value, den) (product-within a c.args.by n d k h small)
