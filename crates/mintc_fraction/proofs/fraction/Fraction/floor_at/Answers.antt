use Rattle.std.proofs.Common.{◌≡◌, ◌≤ℤ◌, ◌<ℤ◌, ◌*ℤ◌, ◌+ℤ◌, ap, refl, rules}
use Rattle.std.proofs.lemmas.Int.{to_z-of_z}
use Rattle.mintc_fraction.specs.Ratio.{Ratio, IsFraction}
use Rattle.mintc_fraction.proofs.Reading.{read_product}
use Rattle.mintc_fraction.proofs.Rounding.{IsFloor-from_quotient, size_of_rounded}
use mir.Syntax.{w128}
use mir.Val.{SFits}
use Rattle.mintc_fraction.proofs.fraction.Fraction.floor_at.Goals as goal

positive : (c : goal.After-rounded_down) → IsFraction c.args.self.now
positive c = rw (ap (λ (x : Ratio). x.den) c.self.view_is) at c.self.invariant

value : (c : goal.After-rounded_down) → c.product.result ≡ c.args.self.now.num *ℤ c.args.grid
value c =
    read_product c.self.inside.num c.args.grid c.args.self.now.num c.args.grid c.product.result (search rules) c.ranges.grid
    (ap (λ (x : Ratio). x.num) c.self.view_is) refl c.product.ensures.value

low : (c : goal.After-rounded_down) → (c.rounded_down.result *ℤ c.args.self.now.den) ≤ℤ (c.args.self.now.num *ℤ c.args.grid)
low c =
    let fits : SFits w128 c.product.result = search rules in
    let fits_den : SFits w128 c.self.inside.den = search rules in
    rw (to_z-of_z w128 c.product.result fits, value c, to_z-of_z w128 c.self.inside.den fits_den, ap (λ (x : Ratio). x.den) c.self.view_is) at c.rounded_down.ensures.low

high : (c : goal.After-rounded_down) → (c.args.self.now.num *ℤ c.args.grid) <ℤ (c.rounded_down.result *ℤ c.args.self.now.den +ℤ c.args.self.now.den)
high c =
    let fits : SFits w128 c.product.result = search rules in
    let fits_den : SFits w128 c.self.inside.den = search rules in
    rw (to_z-of_z w128 c.product.result fits, value c, to_z-of_z w128 c.self.inside.den fits_den, ap (λ (x : Ratio). x.den) c.self.view_is) at c.rounded_down.ensures.high

pub returns-clause-value : goal.returns-clause-value
returns-clause-value c =
    let fits : SFits w128 c.rounded_down.result = search rules in
    rw (to_z-of_z w128 c.rounded_down.result fits) (IsFloor-from_quotient c.args.self.now c.args.grid c.rounded_down.result (positive c) (low c) (high c))

pub returns-clause-bound : goal.returns-clause-bound
returns-clause-bound c = λ n k small few.
    let fits : SFits w128 c.rounded_down.result = search rules in
    rw (to_z-of_z w128 c.rounded_down.result fits)
    (size_of_rounded c.args.self.now c.args.grid c.rounded_down.result (c.args.self.now.num *ℤ c.args.grid) n k (positive c) c.requires.some refl (low c) (high c) small few)
