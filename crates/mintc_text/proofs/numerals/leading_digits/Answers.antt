use Rattle.std.proofs.Common.{◌≡◌, ◌+◌, arith, get_or}
use Rattle.std.proofs.lemmas.Int.Digits.{digits_more, digits_value_more}
use Rattle.std.proofs.lemmas.Str.{digit_value_digit}
use Rattle.std.specs.Char.{digit_value}
use Rattle.mintc_text.proofs.SharedNumeralsLaws.{small_front}
use Rattle.mintc_text.proofs.numerals.leading_digits.Goals as goal

pub overflow_mul-value : goal.overflow_mul-value
overflow_mul-value c = omega (arith, c.loop-at.invariant.1, small_front c.args.bytes.now c.loop-at.at (omega arith) c.loop-at.invariant.0)

pub overflow_add-value : goal.overflow_add-value
overflow_add-value c = omega (arith, c.loop-at.invariant.1, small_front c.args.bytes.now c.loop-at.at (omega arith) c.loop-at.invariant.0)

pub loop-at-preserved : goal.loop-at-preserved
loop-at-preserved c =
    let byte = get_or c.args.bytes.now c.loop-at.at 0 in
    let digit : digit_value byte + 48 ≡ byte = digit_value_digit byte (omega arith, omega arith) in
    let more = digits_value_more 10 c.args.bytes.now c.loop-at.at (omega arith) in
    (digits_more 10 c.args.bytes.now c.loop-at.at (omega arith) c.loop-at.invariant.0 (omega (arith, digit)), omega (arith, digit, more, c.loop-at.invariant.1))
