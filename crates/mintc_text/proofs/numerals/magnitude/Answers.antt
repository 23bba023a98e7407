use Rattle.std.proofs.Common.{◌≡◌, ℕ, ◌+◌, ◌<◌, ◌≤◌, List, arith, take, get_or, length, ap, ◌∙◌, subst, refl, inl, inr}
use Rattle.std.proofs.lemmas.List.{take_all}
use Rattle.std.proofs.lemmas.Int.Digits.{digits_more, digits_value_more}
use Rattle.std.proofs.lemmas.Bool.{cases_lt, false≢true}
use Rattle.std.proofs.lemmas.Bool.Decides.{nat_tests}
use Rattle.std.proofs.lemmas.Str.{digit_value_digit}
use Rattle.std.specs.Char.{digit_value}
use Rattle.std.specs.Str.Parse.{AllDigits, digits_value}
use Rattle.mintc_text.proofs.SharedNumeralsLaws.{plain_from_decimal, small_front, small_from_plain, decimal_from_plain, digit_here}
use Rattle.mintc_text.proofs.numerals.magnitude.Goals as goal
use Rattle.mintc_text.proofs.numerals.magnitude.Goals.{then-is_empty-via-then-is_empty, then-is_empty-via-else-is_empty+then-digits-gt19, then-is_empty-via-else-is_empty+else-digits-gt19+then-has_leading_zero}

pub returns-then-is_empty-clause-value : goal.returns-then-is_empty-clause-value
returns-then-is_empty-clause-value c = λ n small e.
    let plain = plain_from_decimal _ n small e in
    let some = plain.some in
    let few = plain.few in
    elim c.then-is_empty.branch [
      | then-is_empty-via-then-is_empty w ↦ grind (arith, nat_tests)
      | then-is_empty-via-else-is_empty+then-digits-gt19 w ↦ omega (arith, few)
      | then-is_empty-via-else-is_empty+else-digits-gt19+then-has_leading_zero w ↦
          let leads = w.if-has_leading_zero.ensures.0 refl in
          omega (arith, leads, plain.first leads.0)
    ]

pub returns-then-digit-gt9-clause-value : goal.returns-then-digit-gt9-clause-value
returns-then-digit-gt9-clause-value c = λ n small e.
    let digit = digit_here _ c.loop-byte.byte-index (plain_from_decimal c.args.digits.now n small e) (omega arith) in
    omega (arith, digit)

pub overflow_mul-value : goal.overflow_mul-value
overflow_mul-value c = omega (arith, c.loop-byte.invariant.1, small_front c.args.digits.now c.loop-byte.byte-index (omega arith) c.loop-byte.invariant.0)

pub overflow_add-value : goal.overflow_add-value
overflow_add-value c = omega (arith, c.loop-byte.invariant.1, small_front c.args.digits.now c.loop-byte.byte-index (omega arith) c.loop-byte.invariant.0)

pub loop-byte-preserved : goal.loop-byte-preserved
loop-byte-preserved c =
    let byte = get_or c.args.digits.now c.loop-byte.byte-index 0 in
    let digit : digit_value byte + 48 ≡ byte = digit_value_digit byte (omega arith, omega arith) in
    let more = digits_value_more 10 c.args.digits.now c.loop-byte.byte-index (omega arith) in
    (digits_more 10 c.args.digits.now c.loop-byte.byte-index (omega arith) c.loop-byte.invariant.0 (omega (arith, digit)), omega (arith, digit, more, c.loop-byte.invariant.1))

whole : (ds : List ℕ) (i value : ℕ) → length ds ≤ i → AllDigits 10 (take i ds) → value ≡ digits_value 10 (take i ds) → AllDigits 10 ds × (value ≡ digits_value 10 ds)
whole ds i value all digits is =
    let same = take_all i ds all in
    (subst (AllDigits 10) same digits, is ∙ ap (digits_value 10) same)

one_digit : (ds : List ℕ) → 0 < length ds → ((get_or ds 0 0 ≡ 48) × (1 < length ds) → ⊥) → get_or ds 0 0 ≡ 48 → length ds ≡ 1
one_digit ds some none zero =
    elim (cases_lt 1 (length ds)) [
      | inl more ↦ absurd (none (zero, more))
      | inr few ↦ omega (arith, some)
    ]

pub returns-clause-value : goal.returns-clause-value
returns-clause-value c =
    let h = whole c.args.digits.now c.loop-byte.byte-index c.loop-byte.value (omega arith) c.loop-byte.invariant.0 c.loop-byte.invariant.1 in
    let some : 0 < length c.args.digits.now = grind (arith, nat_tests) in
    let first = one_digit c.args.digits.now some (λ leads. false≢true (c.if-has_leading_zero.ensures.1 leads)) in
    rw h.1 (decimal_from_plain c.args.digits.now (record { some = some; few = omega arith; first = first; digits = h.0 }))

pub returns-clause-small : goal.returns-clause-small
returns-clause-small c =
    let h = whole c.args.digits.now c.loop-byte.byte-index c.loop-byte.value (omega arith) c.loop-byte.invariant.0 c.loop-byte.invariant.1 in
    omega (arith, h.1, small_from_plain c.args.digits.now (omega arith) h.0)
