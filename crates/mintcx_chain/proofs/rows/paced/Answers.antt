use Rattle.std.proofs.Common.{◌≡◌, ℤ, ◌+ℤ◌, ◌*ℤ◌, to_z, of_z, w64, ap, ◌∙◌, arith}
use Rattle.std.specs.Int.{w128}
use Rattle.std.proofs.lemmas.Int.{ints, clamps, to_z-of_z}
use Rattle.mintcx_chain.proofs.rows.paced.Goals as goal

pub returns-clause-at : goal.returns-clause-at
returns-clause-at c =
    let at = c.args.pace.at in
    let delay = to_z-of_z w64 c.args.stage.now.delay (omega (arith, ints, clamps, c.requires.short.span.0, c.requires.short.span.1)) in
    let den = to_z-of_z w64 c.args.den (omega (arith, ints, clamps, c.requires.den.0, c.requires.den.1)) in
    let span : c.span_of.result ≡ c.args.stage.now.delay *ℤ c.args.den = rw (delay, den) at c.span_of.ensures.value in
    let both : to_z w128 (of_z w128 (to_z w128 (of_z w128 at) +ℤ to_z w128 (of_z w128 c.from.result))) ≡ at +ℤ c.span_of.result =
    omega (arith, ints, clamps, c.from.ensures, c.span_of.ensures.low, c.span_of.ensures.high, c.requires.time.0, c.requires.time.1) in
    both ∙ ap (λ (z : ℤ). at +ℤ z) span

pub returns-clause-low : goal.returns-clause-low
returns-clause-low c = omega (arith, ints, clamps, c.from.ensures, c.span_of.ensures.low, c.span_of.ensures.high, c.requires.time.0, c.requires.time.1)

pub returns-clause-high : goal.returns-clause-high
returns-clause-high c = omega (arith, ints, clamps, c.from.ensures, c.span_of.ensures.low, c.span_of.ensures.high, c.requires.time.0, c.requires.time.1)
