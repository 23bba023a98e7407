use Rattle.std.proofs.Common.{◌≡◌, ℤ, ◌+ℤ◌, to_z, of_z, ap, ◌∙◌, arith}
use Rattle.std.specs.Int.{w128}
use Rattle.std.proofs.lemmas.Int.{ints, clamps}
use Rattle.mintcx_reports.specs.Begins.{starts_in}
use Rattle.mintcx_reports.proofs.begins.ends_in.Goals as goal

pub returns-clause-value : goal.returns-clause-value
returns-clause-value c =
    let s = c.args.told.now.schedule.now in
    let both : to_z w128 (of_z w128 (to_z w128 (of_z w128 c.starts_in.result) +ℤ to_z w128 (of_z w128 c.from.result))) ≡ c.starts_in.result +ℤ c.width_at.result =
    omega (arith, ints, clamps, c.from.ensures, c.width_at.ensures.range.0, c.width_at.ensures.range.1, c.starts_in.ensures.low, c.starts_in.ensures.high) in
    both ∙ ap (λ (z : ℤ). z +ℤ c.width_at.result) c.starts_in.ensures.value ∙ ap (λ (z : ℤ). starts_in s c.args.phase c.args.cycle +ℤ z) c.width_at.ensures.value

pub returns-clause-low : goal.returns-clause-low
returns-clause-low c = omega (arith, ints, clamps, c.from.ensures, c.width_at.ensures.range.0, c.width_at.ensures.range.1, c.starts_in.ensures.low, c.starts_in.ensures.high)

pub returns-clause-high : goal.returns-clause-high
returns-clause-high c = omega (arith, ints, clamps, c.from.ensures, c.width_at.ensures.range.0, c.width_at.ensures.range.1, c.starts_in.ensures.low, c.starts_in.ensures.high)
