use Rattle.std.proofs.Common.{◌≡◌, ◌++◌, ℤ, pos, ap, ◌∙◌, to_z, of_z, arith}
use Rattle.std.specs.Int.{w128}
use Rattle.std.proofs.lemmas.Int.{ints}
use Rattle.std.proofs.lemmas.Result.{on_ok_weaker}
use Rattle.mintc_fraction.specs.Ratio.{Ratio, over}
use Rattle.mintcx_amounts.specs.declared.unit.Unit.TheVariants.{Nano}
use Rattle.mintcx_amounts.specs.Amounts.{amount_text}
use Rattle.mintcx_sdc.proofs.times.put_time.Goals as goal

pub returns : goal.returns
returns c =
    let time : to_z w128 (of_z w128 c.from.result) ≡ c.args.time = omega (arith, ints, c.from.ensures, c.ranges.time) in
    on_ok_weaker c.put_amount.result
    (λ e. e ∙ ap (λ (x : Ratio). c.args.lines.now ++ amount_text Nano x) (c.new.ensures ∙ ap (λ (x : ℤ). over x (pos 1)) time))
    c.put_amount.ensures.ok
