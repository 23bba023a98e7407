use Rattle.std.proofs.Common.{◌++◌, arith, length-append, ap, ◌∙◌}
use Rattle.std.proofs.lemmas.List.{take_all}
use Rattle.std.specs.Str.Parse.{digits_value}
use Rattle.std.proofs.lemmas.Int.Digits.{digits_value_more}
use Rattle.mintc_decimal.proofs.DigitsLaws.{few_digits}
use Rattle.mintc_decimal.proofs.decimal.read_few_digits.Goals as goal

pub overflow_mul-value : goal.overflow_mul-value
overflow_mul-value c = omega (arith, few_digits 18 c.loop-at.at (c.args.whole.now ++ c.args.fraction.now) (omega arith) c.requires.digits)

pub overflow_add-value : goal.overflow_add-value
overflow_add-value c = omega (arith, few_digits 18 c.loop-at.at (c.args.whole.now ++ c.args.fraction.now) (omega arith) c.requires.digits)

pub loop-at-preserved : goal.loop-at-preserved
loop-at-preserved c =
    let more = digits_value_more 10 (c.args.whole.now ++ c.args.fraction.now) c.loop-at.at (omega (arith, length-append c.args.whole.now c.args.fraction.now)) in
    omega (arith, more, c.digit_at.ensures.value, c.loop-at.invariant)

pub returns : goal.returns
returns c =
    c.loop-at.invariant ∙ ap (digits_value 10) (take_all c.loop-at.at (c.args.whole.now ++ c.args.fraction.now) (omega (arith, length-append c.args.whole.now c.args.fraction.now)))
