use Rattle.std.proofs.Common.{◌≡◌, ap, rules, ◌*ℤ◌}
use Rattle.std.proofs.lemmas.Int.{to_z-of_z}
use Rattle.mintc_fraction.specs.Ratio.{Ratio}
use Rattle.mintc_fraction.proofs.Comparing.{match_int_cmp}
use Rattle.mintc_fraction.proofs.Reading.{read_product}
use mir.Syntax.{w128}
use mir.Val.{SFits}
use Rattle.mintc_fraction.proofs.fraction.Fraction.compare.Goals as goal

pub returns : goal.returns
returns c =
    let a = c.args.self.now in
    let b = c.args.other.now in
    let left : c.product-left.result ≡ a.num *ℤ b.den =
    read_product c.self.inside.num c.other.inside.den a.num b.den c.product-left.result (search rules) (search rules)
    (ap (λ (x : Ratio). x.num) c.self.view_is) (ap (λ (x : Ratio). x.den) c.other.view_is) c.product-left.ensures.value in
    let right : c.product-right.result ≡ b.num *ℤ a.den =
    read_product c.other.inside.num c.self.inside.den b.num a.den c.product-right.result (search rules) (search rules)
    (ap (λ (x : Ratio). x.num) c.other.view_is) (ap (λ (x : Ratio). x.den) c.self.view_is) c.product-right.ensures.value in
    let fits_left : SFits w128 c.product-left.result = search rules in
    let fits_right : SFits w128 c.product-right.result = search rules in
    rw (c.cmp.ensures, to_z-of_z w128 c.product-left.result fits_left, to_z-of_z w128 c.product-right.result fits_right, left, right)
    (match_int_cmp (a.num *ℤ b.den) (b.num *ℤ a.den))
