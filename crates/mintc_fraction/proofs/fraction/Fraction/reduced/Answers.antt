use Rattle.std.proofs.Common.{pos, ◌≤ℤ◌, ap, rules}
use Rattle.std.specs.Prelude.{unsigned_abs}
use Rattle.std.specs.Int.{IsGcd}
use Rattle.std.proofs.lemmas.Int.{to_z-of_z}
use Rattle.mintc_fraction.specs.Ratio.{Ratio, IsFraction, over}
use Rattle.mintc_fraction.proofs.Reducing.{IsDivided, IsDivided-equal, IsDivided-positive, IsDivided-within, IsDivided-lowest}
use mir.Syntax.{w128}
use mir.Val.{SFits, to_z, of_z}
use Rattle.mintc_fraction.proofs.fraction.Fraction.reduced.Goals as goal

pub quotient-requires-clause-exact : goal.quotient-requires-clause-exact
quotient-requires-clause-exact c =
    let fits : SFits w128 c.greatest_divisor-divisor.result = search rules in
    rw (to_z-of_z w128 c.greatest_divisor-divisor.result fits) (c.greatest_divisor-divisor.ensures.divisor.0)

pub quotient-requires-2-clause-exact : goal.quotient-requires-2-clause-exact
quotient-requires-2-clause-exact c =
    let fits : SFits w128 c.greatest_divisor-divisor.result = search rules in
    rw (to_z-of_z w128 c.greatest_divisor-divisor.result fits) (c.greatest_divisor-divisor.ensures.divisor.1)

positive : (c : goal.After-quotient-2) → IsFraction c.args.self.now
positive c = rw (ap (λ (x : Ratio). x.den) c.self.view_is) at c.self.invariant

divisor : (c : goal.After-quotient-2) → IsGcd (unsigned_abs c.args.self.now.num) (unsigned_abs c.args.self.now.den) (unsigned_abs c.greatest_divisor-divisor.result)
divisor c =
    let fits_num : SFits w128 c.self.inside.num = search rules in
    let fits_den : SFits w128 c.self.inside.den = search rules in
    rw (to_z-of_z w128 c.self.inside.num fits_num, ap (λ (x : Ratio). x.num) c.self.view_is, to_z-of_z w128 c.self.inside.den fits_den, ap (λ (x : Ratio). x.den) c.self.view_is) at c.greatest_divisor-divisor.ensures.divisor

divided : (c : goal.After-quotient-2) → IsDivided c.args.self.now (over (to_z w128 (of_z w128 c.quotient.result)) (to_z w128 (of_z w128 c.quotient-2.result))) c.greatest_divisor-divisor.result
divided c =
    let fits : SFits w128 c.greatest_divisor-divisor.result = search rules in
    let fits_num : SFits w128 c.self.inside.num = search rules in
    let fits_den : SFits w128 c.self.inside.den = search rules in
    let fits_first : SFits w128 c.quotient.result = search rules in
    let fits_second : SFits w128 c.quotient-2.result = search rules in
    record {
      some = c.greatest_divisor-divisor.ensures.positive;
      num = rw (to_z-of_z w128 c.quotient.result fits_first)
          (rw (to_z-of_z w128 c.greatest_divisor-divisor.result fits, to_z-of_z w128 c.self.inside.num fits_num, ap (λ (x : Ratio). x.num) c.self.view_is) at c.quotient.ensures);
      den = rw (to_z-of_z w128 c.quotient-2.result fits_second)
          (rw (to_z-of_z w128 c.greatest_divisor-divisor.result fits, to_z-of_z w128 c.self.inside.den fits_den, ap (λ (x : Ratio). x.den) c.self.view_is) at c.quotient-2.ensures);
    }

result_positive : (c : goal.After-quotient-2) → pos 1 ≤ℤ to_z w128 (of_z w128 c.quotient-2.result)
result_positive c = IsDivided-positive _ _ _ (positive c) (divided c)

pub invariant_of-result : goal.invariant_of-result
invariant_of-result c = result_positive c

pub returns-clause-value : goal.returns-clause-value
returns-clause-value c = IsDivided-equal _ _ _ (divided c)

pub returns-clause-lowest : goal.returns-clause-lowest
returns-clause-lowest c = IsDivided-lowest _ _ _ (divided c) (divisor c)

pub returns-clause-positive : goal.returns-clause-positive
returns-clause-positive c = result_positive c

pub returns-clause-modest : goal.returns-clause-modest
returns-clause-modest c = IsDivided-within _ _ _ (positive c) (divided c) _ _ c.requires

pub returns-clause-bounds : goal.returns-clause-bounds
returns-clause-bounds c = IsDivided-within _ _ _ (positive c) (divided c)
