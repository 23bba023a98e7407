use Rattle.std.proofs.Common.{arith}
use Rattle.std.proofs.lemmas.Int.{ints}
use Rattle.mintc_text.proofs.SharedNumeralsLaws.{AreNarrow, none_below, one_below}
use Rattle.mintc_text.proofs.numerals.below_zero.Goals as goal
use Rattle.mintc_text.proofs.numerals.below_zero.Goals.{else-least-value-via-then-least-value+else-value-most, else-least-value-via-else-least-value}

pub returns-else-least-value : goal.returns-else-least-value
returns-else-least-value c = λ z within e.
    let bounds : AreNarrow c.args.least c.args.most = record { low = omega (arith, ints); high = omega (arith, ints) } in
    let one = one_below c.args.digits.now c.args.least c.args.most c.in-Some.size bounds c.in-Some.ensures.small c.in-Some.ensures.value z within e in
    elim c.else-least-value.branch [
      | else-least-value-via-then-least-value+else-value-most w ↦ omega (arith, ints, one.1, within.1, w.if-value-most)
      | else-least-value-via-else-least-value w ↦ omega (arith, ints, one.1, within.0, w.if-least-value)
    ]

pub returns-in_default : goal.returns-in_default
returns-in_default c = λ z within e.
    let bounds : AreNarrow c.args.least c.args.most = record { low = omega (arith, ints); high = omega (arith, ints) } in
    let low = bounds.low in
    let one = one_below c.args.digits.now c.args.least c.args.most c.in-Some.size bounds c.in-Some.ensures.small c.in-Some.ensures.value z within e in
    omega (arith, ints, one.1, within.0)

pub returns-in_default-2 : goal.returns-in_default-2
returns-in_default-2 c = λ z within e.
    let bounds : AreNarrow c.args.least c.args.most = record { low = omega (arith, ints); high = omega (arith, ints) } in
    let one = one_below c.args.digits.now c.args.least c.args.most c.in-Some.size bounds c.in-Some.ensures.small c.in-Some.ensures.value z within e in
    omega (arith, one.0)

pub returns-in_default-3 : goal.returns-in_default-3
returns-in_default-3 c =
    let bounds : AreNarrow c.args.least c.args.most = record { low = omega (arith, ints); high = omega (arith, ints) } in
    none_below c.args.digits.now c.args.least c.args.most bounds c.in_default.ensures.value
