use Rattle.std.proofs.Common.{◌≡◌, pos, ◌≤ℤ◌, ◌*ℤ◌, ◌+ℤ◌, ap, refl, rules, arith}
use Rattle.std.proofs.lemmas.Int.{to_z-of_z, ints}
use Rattle.mintc_fraction.specs.Ratio.{Ratio, IsFraction, sum_of}
use Rattle.mintc_fraction.proofs.Reading.{read_product}
use Rattle.mintc_fraction.proofs.SharedProducts.{times-positive}
use Rattle.mintc_fraction.proofs.Summing.{sum-within}
use mir.Syntax.{w128}
use mir.Val.{SFits, to_z, of_z}
use Rattle.mintc_fraction.proofs.fraction.Fraction.add.Goals as goal

den : (c : goal.After-product-den) → to_z w128 (of_z w128 c.product-den.result) ≡ c.args.self.now.den *ℤ c.args.other.now.den
den c =
    let fits : SFits w128 c.product-den.result = search rules in
    rw (to_z-of_z w128 c.product-den.result fits)
    (read_product c.self.inside.den c.other.inside.den c.args.self.now.den c.args.other.now.den c.product-den.result (search rules) (search rules)
    (ap (λ (x : Ratio). x.den) c.self.view_is) (ap (λ (x : Ratio). x.den) c.other.view_is) c.product-den.ensures.value)

first : (c : goal.After-product-den) → c.product.result ≡ c.args.self.now.num *ℤ c.args.other.now.den
first c =
    read_product c.self.inside.num c.other.inside.den c.args.self.now.num c.args.other.now.den c.product.result (search rules) (search rules)
    (ap (λ (x : Ratio). x.num) c.self.view_is) (ap (λ (x : Ratio). x.den) c.other.view_is) c.product.ensures.value

second : (c : goal.After-product-den) → c.product-2.result ≡ c.args.other.now.num *ℤ c.args.self.now.den
second c =
    read_product c.other.inside.num c.self.inside.den c.args.other.now.num c.args.self.now.den c.product-2.result (search rules) (search rules)
    (ap (λ (x : Ratio). x.num) c.other.view_is) (ap (λ (x : Ratio). x.den) c.self.view_is) c.product-2.ensures.value

num : (c : goal.After-product-den) →
    to_z w128 (of_z w128 (to_z w128 (of_z w128 c.product.result) +ℤ to_z w128 (of_z w128 c.product-2.result))) ≡ (sum_of c.args.self.now c.args.other.now).num
num c =
    let fits_first : SFits w128 c.product.result = search rules in
    let fits_second : SFits w128 c.product-2.result = search rules in
    let fits : SFits w128 (c.product.result +ℤ c.product-2.result) = omega (arith, ints) in
    rw (to_z-of_z w128 c.product.result fits_first, to_z-of_z w128 c.product-2.result fits_second, to_z-of_z w128 (c.product.result +ℤ c.product-2.result) fits, first c, second c) refl

self_positive : (c : goal.After-product-den) → IsFraction c.args.self.now
self_positive c = rw (ap (λ (x : Ratio). x.den) c.self.view_is) at c.self.invariant

other_positive : (c : goal.After-product-den) → IsFraction c.args.other.now
other_positive c = rw (ap (λ (x : Ratio). x.den) c.other.view_is) at c.other.invariant

positive : (c : goal.After-product-den) → pos 1 ≤ℤ to_z w128 (of_z w128 c.product-den.result)
positive c = rw (den c) (times-positive c.args.self.now.den c.args.other.now.den (self_positive c) (other_positive c))

pub invariant_of-result : goal.invariant_of-result
invariant_of-result c = positive c

pub returns-clause-value : goal.returns-clause-value
returns-clause-value c = rw (num c, den c) refl

pub returns-clause-positive : goal.returns-clause-positive
returns-clause-positive c = positive c

pub returns-clause-bounds : goal.returns-clause-bounds
returns-clause-bounds c = λ n d m e h k.
    rw (num c, den c) (sum-within c.args.self.now c.args.other.now (self_positive c) (other_positive c) n d m e h k)
