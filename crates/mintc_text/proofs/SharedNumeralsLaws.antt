-- Numerals, their signs and their digits.
use Rattle.std.proofs.Common.{◌≡◌, ℕ, ℤ, pos, negsuc, neg_ℤ, ◌≤ℤ◌, ◌<◌, ◌≤◌, ◌^◌, List, ◌∷◌, length, get_or, take, length-take, refl, ap, ◌∙◌, sym, subst, arith, zero, suc, decimal, lit<}
use Rattle.std.proofs.lemmas.Int.{ints}
use Rattle.std.proofs.lemmas.Int.Digits.{digits_value-lt}
use Rattle.std.proofs.Math.Nat.{pow-le-pow_right}
use Rattle.std.proofs.lemmas.Fmt.{digits_decimal, decimal_digit, decimal_nonempty, first_decimal, length-decimal-le, decimal-digits_value, decimal_injective}
use Rattle.std.proofs.lemmas.Str.Parse.{IsNumeralModel, numerals_by_value, tells_digits, digit_at}
use Rattle.std.specs.Str.Parse.{AllDigits, digits_value}
use Rattle.mintc_text.specs.Lines.{numeral_of, IsWithin}
use Rattle.mintc_text.specs.Words.{IsShort}

own : IsNumeralModel (AllDigits 10) (digits_value 10)
own = numerals_by_value (AllDigits 10) tells_digits

-- digits without a leading zero, 1 to 19 of them
pub record IsPlain (ds : List ℕ) : Type 0 where
  pub some : 0 < length ds
  pub few : length ds ≤ 19
  pub first : get_or ds 0 0 ≡ 48 → length ds ≡ 1
  pub digits : AllDigits 10 ds

first_digit : (n : ℕ) → n < 2 ^ 64 → get_or (decimal n) 0 0 ≡ 48 → length (decimal n) ≡ 1
first_digit zero small h = ap length (decimal_digit 0 (omega arith))
first_digit (suc n) small h = omega (arith, first_decimal (suc n) (omega arith) small)

decimal_is_plain : (n : ℕ) → n < 10 ^ 19 → IsPlain (decimal n)
decimal_is_plain n small =
    let wide : n < 2 ^ 64 = omega arith in
    record { some = decimal_nonempty n wide; few = length-decimal-le 19 n (omega arith) small wide; first = first_digit n wide; digits = digits_decimal own n wide }

-- such digits are what the numerals below 10^19 are
pub plain_from_decimal : (ds : List ℕ) (n : ℕ) → n < 10 ^ 19 → ds ≡ decimal n → IsPlain ds
plain_from_decimal ds n small e = subst IsPlain (sym e) (decimal_is_plain n small)

pub small_from_plain : (ds : List ℕ) → length ds ≤ 19 → AllDigits 10 ds → digits_value 10 ds < 10 ^ 19
small_from_plain ds few digits = omega (arith, digits_value-lt 10 ds digits, pow-le-pow_right {n = 10} (lit< tt) {i = length ds} {j = 19} few)

pub decimal_from_plain : (ds : List ℕ) → IsPlain ds → ds ≡ decimal (digits_value 10 ds)
decimal_from_plain ds h = sym (decimal-digits_value own ds h.digits h.some h.first (omega (arith, small_from_plain ds h.few h.digits)))

-- a byte that is none of the digits stands in no numeral
pub digit_here : (ds : List ℕ) (i : ℕ) → IsPlain ds → i < length ds → (48 ≤ get_or ds i 0) × (get_or ds i 0 ≤ 57)
digit_here ds i h within = digit_at ds i h.digits within

-- the numeral of a number below 0
pub numeral_minus : (n : ℕ) → 0 < n → numeral_of (neg_ℤ (pos n)) ≡ 45 ∷ decimal n
numeral_minus zero h = let none : ⊥ = omega arith in absurd none
numeral_minus (suc n) h = refl

no_sign : (n : ℕ) → n < 10 ^ 19 → get_or (decimal n) 0 0 ≡ 45 → ⊥
no_sign n small first = let d = digit_here (decimal n) 0 (decimal_is_plain n small) (decimal_nonempty n (omega arith)) in omega (arith, d)

-- a numeral that begins with a minus
below_minus : (digits : List ℕ) (z : ℤ) → IsShort z → 45 ∷ digits ≡ numeral_of z → (n : ℕ) × (0 < n) × (n < 10 ^ 19) × (digits ≡ decimal n) × (z ≡ neg_ℤ (pos n))
below_minus digits (pos n) short e = absurd (no_sign n (omega (arith, ints, short.1)) (ap (λ (v : List ℕ). get_or v 0 0) (sym e)))
below_minus digits (negsuc n) short e = (suc n, omega arith, omega (arith, ints, short.0), cc, refl)

pub same_decimal : (m n : ℕ) → m < 10 ^ 19 → n < 10 ^ 19 → decimal m ≡ decimal n → m ≡ n
same_decimal m n small little e = decimal_injective m n (omega arith) (omega arith) e

pub small_front : (ds : List ℕ) (i : ℕ) → i < 19 → AllDigits 10 (take i ds) → digits_value 10 (take i ds) < 10 ^ 18
small_front ds i few digits =
    let short : length (take i ds) ≤ 18 = omega (arith, length-take i ds) in
    omega (arith, digits_value-lt 10 (take i ds) digits, pow-le-pow_right {n = 10} (lit< tt) {i = length (take i ds)} {j = 18} short)

-- a short numeral is the numeral of one number
pub same_numeral : (y z : ℤ) → IsShort y → IsShort z → numeral_of y ≡ numeral_of z → y ≡ z
same_numeral (pos m) (pos n) short little e = ap pos (same_decimal m n (omega (arith, ints, short.1)) (omega (arith, ints, little.1)) e)
same_numeral (pos m) (negsuc n) short little e = absurd (no_sign m (omega (arith, ints, short.1)) (ap (λ (v : List ℕ). get_or v 0 0) e))
same_numeral (negsuc m) (pos n) short little e = absurd (no_sign n (omega (arith, ints, little.1)) (ap (λ (v : List ℕ). get_or v 0 0) (sym e)))
same_numeral (negsuc m) (negsuc n) short little e =
    let same : suc m ≡ suc n = same_decimal (suc m) (suc n) (omega (arith, ints, short.0)) (omega (arith, ints, little.0)) cc in
    let equal : m ≡ n = omega arith in
    ap negsuc equal

-- bounds of 64 bits
pub record AreNarrow (least most : ℤ) : Type 0 where
  pub low : negsuc 9223372036854775807 ≤ℤ least
  pub high : most ≤ℤ pos 9223372036854775807

short_within : (least most z : ℤ) → AreNarrow least most → IsWithin least most z → IsShort z
short_within least most z b h = let low = b.low in let high = b.high in (omega (arith, ints, h.0), omega (arith, ints, h.1))

-- digits after a minus write at most one number
pub none_below : (digits : List ℕ) (least most : ℤ) → AreNarrow least most → ((n : ℕ) → n < 10 ^ 19 → digits ≡ decimal n → ⊥) →
    (z : ℤ) → IsWithin least most z → 45 ∷ digits ≡ numeral_of z → ⊥
none_below digits least most b none z h e = let n = below_minus digits z (short_within least most z b h) e in none n.0 n.2 n.3

pub one_below : (digits : List ℕ) (least most : ℤ) (size : ℕ) → AreNarrow least most → size < 10 ^ 19 → digits ≡ decimal size →
    (z : ℤ) → IsWithin least most z → 45 ∷ digits ≡ numeral_of z → (0 < size) × (z ≡ neg_ℤ (pos size))
one_below digits least most size b small is z h e =
    let n = below_minus digits z (short_within least most z b h) e in
    let same : n.0 ≡ size = same_decimal n.0 size n.2 small (sym n.3 ∙ is) in
    (subst (λ (m : ℕ). 0 < m) same n.1, n.4 ∙ ap (λ (m : ℕ). neg_ℤ (pos m)) same)

-- and so do digits with no sign
pub one_from : (digits : List ℕ) (least most : ℤ) (size : ℕ) → AreNarrow least most → size < 10 ^ 19 → digits ≡ decimal size →
    (n : ℕ) → IsWithin least most (pos n) → digits ≡ decimal n → n ≡ size
one_from digits least most size b small is n h e =
    let high = b.high in
    same_decimal n size (omega (arith, ints, h.1)) small (sym e ∙ is)
