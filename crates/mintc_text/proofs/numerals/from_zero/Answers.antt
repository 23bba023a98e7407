use Rattle.std.proofs.Common.{arith}
use Rattle.std.proofs.lemmas.Int.{ints}
use Rattle.mintc_text.proofs.SharedNumeralsLaws.{AreNarrow, one_from}
use Rattle.mintc_text.proofs.numerals.from_zero.Goals as goal
use Rattle.mintc_text.proofs.numerals.from_zero.Goals.{else-least-value-via-then-least-value+else-value-most, else-least-value-via-else-least-value}

pub returns-else-least-value : goal.returns-else-least-value
returns-else-least-value c = λ n within e.
    let bounds : AreNarrow c.args.least c.args.most = record { low = omega (arith, ints); high = omega (arith, ints) } in
    let same = one_from c.args.digits.now c.args.least c.args.most c.in-Some.size bounds c.in-Some.ensures.small c.in-Some.ensures.value n within e in
    elim c.else-least-value.branch [
      | else-least-value-via-then-least-value+else-value-most w ↦ omega (arith, ints, same, within.1, w.if-value-most)
      | else-least-value-via-else-least-value w ↦ omega (arith, ints, same, within.0, w.if-least-value)
    ]

pub returns-in_default : goal.returns-in_default
returns-in_default c = λ n within e.
    let bounds : AreNarrow c.args.least c.args.most = record { low = omega (arith, ints); high = omega (arith, ints) } in
    let high = bounds.high in
    let same = one_from c.args.digits.now c.args.least c.args.most c.in-Some.size bounds c.in-Some.ensures.small c.in-Some.ensures.value n within e in
    omega (arith, ints, same, within.1)
