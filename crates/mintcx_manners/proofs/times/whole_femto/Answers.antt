use Rattle.std.proofs.Common.{◌≡◌, ◌<◌, ◌^◌, pos, arith, lit<, sym, ◌∙◌}
use Rattle.std.proofs.Math.Nat.{one-le-pow}
use Rattle.std.proofs.lemmas.Int.{ints}
use Rattle.mintc_decimal.specs.DecimalValue.{value_of}
use Rattle.mintc_decimal.specs.Decimals.{over, under, tens_down}
use Rattle.mintcx_manners.proofs.TimeLaws.{whole_at, far_at, none_at}
use Rattle.mintcx_manners.proofs.times.whole_femto.Goals as goal
use Rattle.mintcx_manners.proofs.times.whole_femto.Goals.{else-above-below-via-then-above-below+then-above-ge1+else-above-le1000000000, else-above-below-via-then-above-below+else-above-ge1, else-above-below-via-else-above-below}

pub returns-in_err-above : goal.returns-in_err-above
returns-in_err-above c =
    let v = value_of c.args.number.now in
    rw c.from_residual.ensures (far_at v.negative (over v c.args.scale) (under v) c.in_err-above.ensures.rounded)

pub returns-then-above-le1000000000 : goal.returns-then-above-le1000000000
returns-then-above-le1000000000 c =
    let v = value_of c.args.number.now in
    whole_at v.negative (over v c.args.scale) (under v) c.in_ok-above.above c.in_ok-below.below _ c.if-number.false (one-le-pow (tens_down v.places) 10 (lit< tt))
    c.in_ok-above.ensures.rounded c.in_ok-below.ensures.rounded (search (arith, ints)) (search (arith, ints)) (search (arith, ints)) (search (arith, ints))

pub returns-else-above-below : goal.returns-else-above-below
returns-else-above-below c =
    let v = value_of c.args.number.now in
    none_at v.negative (over v c.args.scale) (under v) c.in_ok-above.above c.in_ok-below.below (one-le-pow (tens_down v.places) 10 (lit< tt))
    c.in_ok-above.ensures.rounded c.in_ok-below.ensures.rounded
    (λ q up down least most. elim c.else-above-below.branch [
      | else-above-below-via-then-above-below+then-above-ge1+else-above-le1000000000 w ↦ omega (arith, ints, up, most, w.if-above-le1000000000.false)
      | else-above-below-via-then-above-below+else-above-ge1 w ↦ omega (arith, ints, up, least, w.if-above-ge1.false)
      | else-above-below-via-else-above-below w ↦ omega (arith, ints, up, down, w.if-above-below.false)
    ])
