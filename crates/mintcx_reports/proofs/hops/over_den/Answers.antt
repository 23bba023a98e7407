use Rattle.std.proofs.Common.{◌≡◌, ◌*ℤ◌, to_z, of_z, arith}
use Rattle.std.specs.Int.{w128}
use Rattle.std.proofs.lemmas.Int.{ints, clamps, to_z-of_z}
use Rattle.mintcx_reports.proofs.TimeLaws.{span_high, span_low, span_most}
use Rattle.mintcx_reports.proofs.hops.over_den.Goals as goal

pub returns-clause-high : goal.returns-clause-high
returns-clause-high c =
    let den = c.args.told.now.schedule.now.den in
    let delay = c.args.delay in
    let range = c.requires.timed.in_range.den in
    let low = span_low delay den c.requires.delay.0 range.0 range.1 in
    let high = span_high delay den c.requires.delay.1 range.0 range.1 in
    let left : to_z w128 (of_z w128 c.from.result) ≡ delay = omega (arith, ints, clamps, c.from.ensures, c.requires.delay.0, c.requires.delay.1) in
    let right : to_z w128 (of_z w128 c.from-2.result) ≡ den = omega (arith, ints, clamps, c.from-2.ensures, range.0, range.1) in
    let read : to_z w128 (of_z w128 (delay *ℤ den)) ≡ delay *ℤ den = to_z-of_z w128 (delay *ℤ den) (omega (arith, ints)) in
    rw (left, right, read) high

pub returns-clause-most : goal.returns-clause-most
returns-clause-most c =
    let den = c.args.told.now.schedule.now.den in
    let delay = c.args.delay in
    let range = c.requires.timed.in_range.den in
    let low = span_low delay den c.requires.delay.0 range.0 range.1 in
    let high = span_high delay den c.requires.delay.1 range.0 range.1 in
    let left : to_z w128 (of_z w128 c.from.result) ≡ delay = omega (arith, ints, clamps, c.from.ensures, c.requires.delay.0, c.requires.delay.1) in
    let right : to_z w128 (of_z w128 c.from-2.result) ≡ den = omega (arith, ints, clamps, c.from-2.ensures, range.0, range.1) in
    let read : to_z w128 (of_z w128 (delay *ℤ den)) ≡ delay *ℤ den = to_z-of_z w128 (delay *ℤ den) (omega (arith, ints)) in
    λ few. rw (left, right, read) (span_most delay den few range.0 range.1)
