-- Times that are written are read back.
use Rattle.std.proofs.Common.{◌≡◌, ℕ, zero, suc, ◌+◌, ◌*◌, ◌/◌, ◌%◌, ◌^◌, ◌<◌, ◌≤◌, ◌==◌, ℤ, pos, neg_ℤ, Bool, true, false, not, if◌then◌else◌, List, [], ◌∷◌, ◌++◌, length, length-append, append_assoc, append-nil, refl, ap, ◌∙◌, sym, subst, arith, decimal, lit<}
use Rattle.std.specs.Prelude.{unsigned_abs, int_lt}
use Rattle.std.specs.Char.{digit_value}
use Rattle.std.specs.Str.Parse.{AllDigits, digits_value}
use Rattle.std.proofs.lemmas.Bool.{ne_eqb}
use Rattle.std.proofs.lemmas.Fmt.{decimal_is_IsNumeral_wide}
use Rattle.std.proofs.lemmas.Int.{ints, unsigned_abs-mul}
use Rattle.std.proofs.lemmas.Int.Digits.{digits_value_push}
use Rattle.std.proofs.lemmas.Nat.{div-add-mod'}
use Rattle.std.proofs.lemmas.Str.{digit_value_digit}
use Rattle.std.proofs.Math.Nat.{mul-mod_left, mul-le-mul_right, pow-le-pow_right}
use Rattle.mintc_fraction.specs.Ratio.{Ratio, over}
use Rattle.mintcx_amounts.specs.declared.unit.Unit.TheVariants.{Nano}
use Rattle.mintcx_amounts.specs.Amounts.{is_short, mark_of, shown_in, shown_text, sign_of}
use Rattle.mintcx_amounts.specs.Decimals.{decimal_text, with_point}
use Rattle.mintcx_amounts.specs.Laws.{AmountsAreNear, Shows, in_unit}
use Rattle.mintcx_sdc.specs.Times.{IsTime, TimesAreExact, pointed}

-- digits before and behind a point
pub record IsPointed (places d : ℕ) (text : List ℕ) : Type 0 where
  pub whole : List ℕ
  pub after : List ℕ
  pub parts : text ≡ whole ++ 46 ∷ after
  pub some : 0 < length whole
  pub whole_digits : AllDigits 10 whole
  pub after_digits : AllDigits 10 after
  pub count : length after ≡ places
  pub value : digits_value 10 (whole ++ after) ≡ d

digit_of : (n : ℕ) → n < 10 → digit_value (48 + n) ≡ n
digit_of n small = omega (arith, digit_value_digit (48 + n) (omega arith, omega arith))

digits_more : (ds : List ℕ) (c : ℕ) → AllDigits 10 ds → digit_value c < 10 → AllDigits 10 (ds ++ c ∷ [])
digits_more [] c h g = (g, tt)
digits_more (d ∷ ds) c h g = (h.0, digits_more ds c h.1 g)

pointed_by : (p d : ℕ) → d < 10 ^ 64 → IsPointed p d (with_point p d)
pointed_by zero d small =
    let n = decimal_is_IsNumeral_wide d small in
    record {
      whole = decimal d;
      after = [];
      parts = refl;
      some = n.0.0;
      whole_digits = n.0.1;
      after_digits = tt;
      count = refl;
      value = ap (digits_value 10) (append-nil (decimal d)) ∙ n.1;
    }
pointed_by (suc p) d small =
    let r = pointed_by p (d / 10) (omega arith) in
    let c : ℕ = 48 + d % 10 in
    let digit : digit_value c ≡ d % 10 = digit_of (d % 10) (omega arith) in
    record {
      whole = r.whole;
      after = r.after ++ c ∷ [];
      parts = ap (λ (v : List ℕ). v ++ c ∷ []) r.parts ∙ append_assoc r.whole (46 ∷ r.after) (c ∷ []);
      some = r.some;
      whole_digits = r.whole_digits;
      after_digits = digits_more r.after c r.after_digits (omega (arith, digit));
      count = length-append r.after (c ∷ []) ∙ ap (λ (v : ℕ). v + 1) r.count ∙ omega arith;
      value = ap (digits_value 10) (sym (append_assoc r.whole r.after (c ∷ []))) ∙ digits_value_push 10 (r.whole ++ r.after) c ∙ omega (arith, r.value, digit, div-add-mod' d 10);
    }

-- places behind a point, where there are some
some_places : (places : List ℕ) (p : ℕ) → length places ≡ suc p → pointed places ≡ 46 ∷ places
some_places [] p h = absurd (omega (arith, h))
some_places (digit ∷ places) p h = refl

-- a decimal with places has a point
has_point : (p d : ℕ) → (if suc p == 0 then decimal d else with_point (suc p) d) ≡ with_point (suc p) d
has_point p d = let other : (suc p == 0) ≡ false = ne_eqb (suc p) 0 (λ e. absurd (omega (arith, e))) in rw other refl

by_size : (x : ℤ) (negative : Bool) → negative ≡ int_lt x (pos 0) → (p d : ℕ) → p ≤ 6 → d < 10 ^ 64 → d * 10 ^ 6 ≡ unsigned_abs x * 10 ^ p →
    IsTime x (sign_of negative ++ (if p == 0 then decimal d else with_point p d))
by_size x negative same zero d few small exact =
    let n = decimal_is_IsNumeral_wide d small in
    record {
      whole = decimal d;
      places = [];
      parts = ap (λ (v : Bool). sign_of v ++ decimal d) same ∙ sym (append-nil (sign_of (int_lt x (pos 0)) ++ decimal d));
      some = n.0.0;
      whole_digits = n.0.1;
      place_digits = tt;
      few = omega arith;
      exact = ap (λ (v : ℕ). v * 10 ^ 6) (ap (digits_value 10) (append-nil (decimal d)) ∙ n.1) ∙ exact;
    }
by_size x negative same (suc p) d few small exact =
    let r = pointed_by (suc p) d small in
    record {
      whole = r.whole;
      places = r.after;
      parts = ap (λ (v : List ℕ). sign_of negative ++ v) (has_point p d) ∙ ap (λ (v : Bool). sign_of v ++ with_point (suc p) d) same
          ∙ ap (λ (v : List ℕ). sign_of (int_lt x (pos 0)) ++ v) (r.parts ∙ ap (λ (v : List ℕ). r.whole ++ v) (sym (some_places r.after p r.count)))
          ∙ sym (append_assoc (sign_of (int_lt x (pos 0))) r.whole (pointed r.after));
      some = r.some;
      whole_digits = r.whole_digits;
      place_digits = r.after_digits;
      few = omega (arith, r.count);
      exact = ap (λ (v : ℕ). v * 10 ^ 6) r.value ∙ exact ∙ ap (λ (v : ℕ). unsigned_abs x * 10 ^ v) (sym r.count);
    }

-- the size of what is shown
size_of_value : (negative : Bool) (n : ℕ) → unsigned_abs (if negative then neg_ℤ (pos n) else pos n) ≡ n
size_of_value true zero = refl
size_of_value true (suc n) = refl
size_of_value false n = refl

-- an amount that is shown exactly
by_shown : (x : ℤ) (a : Ratio) → (shown_in Nano a).rounded ≡ false → (shown_in Nano a).negative ≡ int_lt x (pos 0) →
    Shows (in_unit Nano (over x (pos 1))) (shown_in Nano a) → unsigned_abs x ≤ 10 ^ 24 → IsTime x (shown_text (shown_in Nano a))
by_shown x a whole same h small =
    let negative : Bool = (shown_in Nano a).negative in
    let p : ℕ = (shown_in Nano a).size.places in
    let n : ℕ = (shown_in Nano a).size.digits in
    let signed : ℤ = if negative then neg_ℤ (pos n) else pos n in
    let few : p ≤ 6 = subst (λ (b : Bool). p ≤ (if b then 3 else 6)) whole h.places in
    let exact : n * 10 ^ 6 ≡ unsigned_abs x * 10 ^ p =
    ap (λ (v : ℕ). v * 10 ^ 6) (sym (size_of_value negative n)) ∙ sym (unsigned_abs-mul signed (pos 1000000)) ∙ ap unsigned_abs (h.exact whole) ∙ unsigned_abs-mul x (pos (10 ^ p)) in
    let most : 10 ^ p ≤ 10 ^ 6 = pow-le-pow_right {n = 10} (lit< tt) {i = p} {j = 6} few in
    let bounded : n < 10 ^ 64 = omega (arith, exact, most, mul-le-mul_right (10 ^ p) small) in
    subst (λ (b : Bool). IsTime x ((mark_of b ++ sign_of negative) ++ decimal_text (shown_in Nano a).size)) (sym whole) (by_size x negative same p n few bounded exact)

-- a whole number of femtoseconds is a whole number of millionths of a nanosecond
is_whole : (n : ℕ) → is_short n 1000000 ≡ true
is_whole n = ap (λ (v : ℕ). v == 0) (mul-mod_left n 1000000)

pub exact_times : AmountsAreNear → TimesAreExact
exact_times near x small =
    by_shown x (over x (pos 1)) (ap not (is_whole (unsigned_abs x))) refl (near Nano (over x (pos 1)) (omega (arith, ints))) small
