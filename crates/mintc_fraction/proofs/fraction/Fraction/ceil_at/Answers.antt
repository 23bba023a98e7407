use Rattle.std.proofs.Common.{◌≡◌, ℤ, pos, ◌≤ℤ◌, ◌<ℤ◌, ◌*ℤ◌, ◌+ℤ◌, ◌-ℤ◌, ap, refl, rules, arith}
use Rattle.std.specs.Prelude.{unsigned_abs}
use Rattle.std.proofs.lemmas.Int.{to_z-of_z, ints}
use Rattle.mintc_fraction.specs.Ratio.{Ratio, IsFraction}
use Rattle.mintc_fraction.proofs.Reading.{read_product}
use Rattle.mintc_fraction.proofs.Rounding.{IsCeiling-from_quotient, size_of_rounded}
use mir.Syntax.{w128}
use mir.Val.{SFits, to_z, of_z}
use Rattle.mintc_fraction.proofs.fraction.Fraction.ceil_at.Goals as goal

-- a number with the other sign, as the code reads it
abbrev opposite : ℤ → ℤ
opposite z = to_z w128 (of_z w128 (pos 0 -ℤ to_z w128 (of_z w128 z)))

positive : (c : goal.After-rounded_down) → IsFraction c.args.self.now
positive c = rw (ap (λ (x : Ratio). x.den) c.self.view_is) at c.self.invariant

value : (c : goal.After-rounded_down) → c.product.result ≡ c.args.self.now.num *ℤ c.args.grid
value c =
    read_product c.self.inside.num c.args.grid c.args.self.now.num c.args.grid c.product.result (search rules) c.ranges.grid
    (ap (λ (x : Ratio). x.num) c.self.view_is) refl c.product.ensures.value

turned : (c : goal.After-rounded_down) → opposite c.product.result +ℤ (c.args.self.now.num *ℤ c.args.grid) ≡ pos 0
turned c = rw (← value c) (omega (arith, ints))

turned_back : (c : goal.After-rounded_down) → opposite c.rounded_down.result +ℤ c.rounded_down.result ≡ pos 0
turned_back c = omega (arith, ints)

low : (c : goal.After-rounded_down) → (c.rounded_down.result *ℤ c.args.self.now.den) ≤ℤ opposite c.product.result
low c =
    let fits_den : SFits w128 c.self.inside.den = search rules in
    rw (to_z-of_z w128 c.self.inside.den fits_den, ap (λ (x : Ratio). x.den) c.self.view_is) at c.rounded_down.ensures.low

high : (c : goal.After-rounded_down) → opposite c.product.result <ℤ (c.rounded_down.result *ℤ c.args.self.now.den +ℤ c.args.self.now.den)
high c =
    let fits_den : SFits w128 c.self.inside.den = search rules in
    rw (to_z-of_z w128 c.self.inside.den fits_den, ap (λ (x : Ratio). x.den) c.self.view_is) at c.rounded_down.ensures.high

pub returns-clause-value : goal.returns-clause-value
returns-clause-value c =
    IsCeiling-from_quotient c.args.self.now c.args.grid (opposite c.rounded_down.result) c.rounded_down.result (opposite c.product.result)
    (positive c) (turned_back c) (turned c) (low c) (high c)

pub returns-clause-bound : goal.returns-clause-bound
returns-clause-bound c = λ n k small few.
    let same : unsigned_abs (opposite c.product.result) ≡ unsigned_abs (c.args.self.now.num *ℤ c.args.grid) = let h = turned c in omega (arith, ints) in
    let size = size_of_rounded c.args.self.now c.args.grid c.rounded_down.result (opposite c.product.result) n k (positive c) c.requires.some same (low c) (high c) small few in
    let h = turned_back c in
    omega (arith, ints)
