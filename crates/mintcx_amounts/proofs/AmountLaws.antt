-- What is shown of an amount.
use Rattle.std.proofs.Common.{◌≡◌, ◌≢◌, ℕ, zero, suc, ◌+◌, ◌*◌, ◌/◌, ◌%◌, ◌^◌, ◌<◌, ◌≤◌, ◌==◌, ℤ, pos, negsuc, neg_ℤ, ◌≤ℤ◌, ◌+ℤ◌, ◌*ℤ◌, Bool, true, false, not, if◌then◌else◌, refl, ap, ◌∙◌, sym, subst, arith}
use Rattle.std.specs.Prelude.{unsigned_abs, int_lt}
use Rattle.std.proofs.lemmas.Bool.{false≢true}
use Rattle.std.proofs.lemmas.Bool.Decides.{nat_tests}
use Rattle.std.proofs.lemmas.Int.{ints, unsigned_abs-mul}
use Rattle.std.proofs.lemmas.Nat.{div-add-mod'}
use Rattle.std.proofs.Math.Nat.{mul-le-mul_right, mul-mod_left, pow-suc, div-mul-le_self, lt-div-mul-add}
use Rattle.mintc_fraction.specs.Ratio.{over}
use Rattle.mintc_fraction.proofs.SharedProducts.{add-times}
use Rattle.mintcx_amounts.specs.declared.unit.Unit.{Unit}
use Rattle.mintcx_amounts.specs.declared.unit.Unit.TheVariants.{Femto, Pico, Nano}
use Rattle.mintcx_amounts.specs.declared.decimal.Decimal.{Decimal}
use Rattle.mintcx_amounts.specs.declared.amount.Shown.{Shown}
use Rattle.mintcx_amounts.specs.Units.{femtoseconds}
use Rattle.mintcx_amounts.specs.Decimals.{trimmed}
use Rattle.mintcx_amounts.specs.Amounts.{is_short, size_of, shown_in}
use Rattle.mintcx_amounts.specs.Laws.{Shows, in_unit, AmountsAreNear}

-- ---- zeros at the end

-- the decimal d is digits / 10^places without zeros at its end
pub record IsTrimmed (places digits : ℕ) (d : Decimal) : Type 0 where
  pub same : d.digits * 10 ^ places ≡ digits * 10 ^ d.places
  pub few : d.places ≤ places
  pub ends : 0 < d.places → d.digits % 10 ≢ 0

longer : (q r D P X Y : ℕ) → D * X ≡ r * P → r * 10 + 0 ≡ q → Y ≡ X * 10 → D * Y ≡ q * P
longer q r D P X Y e f g = omega (arith, e, ap (λ v. v * P) f, ap (λ v. D * v) g)

one_place : (p q : ℕ) (b : Bool) → (q % 10 == 0) ≡ b → IsTrimmed p (q / 10) (trimmed p (q / 10)) →
    IsTrimmed (suc p) q (if b then trimmed p (q / 10) else record { digits = q; places = suc p })
one_place p q true e h =
    let none : q % 10 ≡ 0 = grind (arith, nat_tests) in
    record {
      same = longer q (q / 10) _ _ (10 ^ p) (10 ^ suc p) h.same (ap (λ v. q / 10 * 10 + v) (sym none) ∙ div-add-mod' q 10) (pow-suc 10 p);
      few = omega (arith, h.few);
      ends = h.ends;
    }
one_place p q false e h = record { same = refl; few = omega arith; ends = λ some none. grind (arith, nat_tests) }

is_trimmed : (p q : ℕ) → IsTrimmed p q (trimmed p q)
is_trimmed zero q = record { same = refl; few = omega arith; ends = λ some. absurd (omega arith) }
is_trimmed (suc p) q = one_place p q (q % 10 == 0) refl (is_trimmed p (q / 10))

-- ---- sizes

-- the decimal is n / D
exact_by : (n D q d P : ℕ) → q * D ≡ n * 1000000 → d * 1000000 ≡ q * P → d * D ≡ n * P
exact_by n D q d P e f = omega (arith, ap (λ v. v * P) e, ap (λ v. v * D) f)

-- the decimal d / P is near n / D
pub record IsClose (n D d P : ℕ) : Type 0 where
  pub low : d * (D * 2000) ≤ (n * 2000 + D) * P
  pub high : n * (2000 * P) + 0 ≤ (d * 2000 + P) * D

close_by : (n D q d P : ℕ) → q * (D * 2) ≤ n * 2000 + D → n * 2000 + D < q * (D * 2) + D * 2 → d * 1000 ≡ q * P → IsClose n D d P
close_by n D q d P low high e =
    let a = mul-le-mul_right P low in
    let before : n * 2000 ≤ q * (D * 2) + D = omega arith in
    let b = mul-le-mul_right P before in
    let f = ap (λ v. v * D) e in
    record { low = omega (arith, a, f); high = omega (arith, b, f) }

-- ---- signs

neg-times : (q d : ℕ) → neg_ℤ (pos q) *ℤ pos d ≡ neg_ℤ (pos (q * d))
neg-times zero d = let none : 0 * d ≡ 0 = omega arith in rw none
neg-times (suc q) d = refl

-- what is near above and below 0
minus_low : (n D d P : ℕ) → n * (2000 * P) + 0 ≤ (d * 2000 + P) * D → (neg_ℤ (pos d) *ℤ pos (D * 2000)) ≤ℤ ((neg_ℤ (pos (n * 2000)) +ℤ pos (1 * D)) *ℤ pos P)
minus_low n D d P h =
    omega (arith, ints, h, neg-times d (D * 2000), add-times (neg_ℤ (pos (n * 2000))) (pos (1 * D)) (pos P), neg-times (n * 2000) P)

minus_high : (n D d P : ℕ) → d * (D * 2000) ≤ (n * 2000 + D) * P → neg_ℤ (pos (n * (P * 2000))) ≤ℤ ((neg_ℤ (pos d) *ℤ pos 2000 +ℤ pos (1 * P)) *ℤ pos D)
minus_high n D d P h =
    rw (neg-times d 2000)
    (omega (arith, ints, h, add-times (neg_ℤ (pos (d * 2000))) (pos (1 * P)) (pos D), neg-times (d * 2000) D))

-- a rounded size is no number of millionths
needs_rounding : (num k : ℤ) (D : ℕ) → is_short (unsigned_abs num) D ≡ false → k *ℤ pos D ≡ num *ℤ pos 1000000 → ⊥
needs_rounding num k D short e =
    let same : unsigned_abs k * D ≡ unsigned_abs num * 1000000 = sym (unsigned_abs-mul k (pos D)) ∙ ap unsigned_abs e ∙ unsigned_abs-mul num (pos 1000000) in
    let whole : (unsigned_abs num * 1000000) % D ≡ 0 = subst (λ (v : ℕ). v % D ≡ 0) same (mul-mod_left (unsigned_abs k) D) in
    grind (arith, nat_tests)

below_zero : (n : ℕ) → int_lt (pos n) (pos 0) ≡ false
below_zero n = grind (arith, ints)

-- ---- what is shown

shown : Bool → Bool → Decimal → Shown
shown rounded negative size = record { rounded = rounded; negative = negative; size = size }

-- of n / D, exactly
plus_exact : (n D q : ℕ) (d : Decimal) → q * D ≡ n * 1000000 → IsTrimmed 6 q d → Shows (over (pos n) (pos D)) (shown false false d)
unfolding shown
plus_exact n D q d whole t =
    record {
      exact = λ r. ap pos (exact_by n D q d.digits (10 ^ d.places) whole t.same);
      near = λ r. absurd (false≢true r);
      needed = λ r. absurd (false≢true r);
      places = t.few;
      short = t.ends;
    }

minus_exact : (m D q : ℕ) (d : Decimal) → q * D ≡ suc m * 1000000 → IsTrimmed 6 q d → Shows (over (negsuc m) (pos D)) (shown false true d)
unfolding shown
minus_exact m D q d whole t =
    record {
      exact = λ r. neg-times d.digits D ∙ ap (λ v. neg_ℤ (pos v)) (exact_by (suc m) D q d.digits (10 ^ d.places) whole t.same);
      near = λ r. absurd (false≢true r);
      needed = λ r. absurd (false≢true r);
      places = t.few;
      short = t.ends;
    }

-- and rounded
plus_near : (n D q : ℕ) (d : Decimal) → is_short n D ≡ false → IsTrimmed 3 q d → IsClose n D d.digits (10 ^ d.places) →
    Shows (over (pos n) (pos D)) (shown true false d)
unfolding shown
plus_near n D q d e t c =
    record {
      exact = λ r. absurd (false≢true (sym r));
      near = λ r. (omega (arith, ints, c.low), omega (arith, ints, c.high));
      needed = λ r k h. needs_rounding (pos n) k D e h;
      places = t.few;
      short = t.ends;
    }

minus_near : (m D q : ℕ) (d : Decimal) → is_short (suc m) D ≡ false → IsTrimmed 3 q d → IsClose (suc m) D d.digits (10 ^ d.places) →
    Shows (over (negsuc m) (pos D)) (shown true true d)
unfolding shown
minus_near m D q d e t c =
    record {
      exact = λ r. absurd (false≢true (sym r));
      near = λ r. (minus_low (suc m) D d.digits (10 ^ d.places) c.high, minus_high (suc m) D d.digits (10 ^ d.places) c.low);
      needed = λ r k h. needs_rounding (negsuc m) k D e h;
      places = t.few;
      short = t.ends;
    }

whole_quotient : (n D : ℕ) → is_short n D ≡ true → n * 1000000 / D * D ≡ n * 1000000
whole_quotient n D e =
    let none : (n * 1000000) % D ≡ 0 = grind (arith, nat_tests) in
    omega (arith, none, div-add-mod' (n * 1000000) D)

close_quotient : (n D : ℕ) (d : Decimal) → 0 < D → IsTrimmed 3 ((n * 2000 + D) / (D * 2)) d → IsClose n D d.digits (10 ^ d.places)
close_quotient n D d some t =
    let room : 0 < D * 2 = omega arith in
    close_by n D ((n * 2000 + D) / (D * 2)) d.digits (10 ^ d.places) (div-mul-le_self (n * 2000 + D) (D * 2)) (lt-div-mul-add room) t.same

plus : (n D : ℕ) (b : Bool) → 0 < D → is_short n D ≡ b →
    Shows (over (pos n) (pos D)) (shown (not b) false (if b then trimmed 6 (n * 1000000 / D) else trimmed 3 ((n * 2000 + D) / (D * 2))))
plus n D true some e = plus_exact n D (n * 1000000 / D) _ (whole_quotient n D e) (is_trimmed 6 (n * 1000000 / D))
plus n D false some e =
    let t = is_trimmed 3 ((n * 2000 + D) / (D * 2)) in
    plus_near n D ((n * 2000 + D) / (D * 2)) _ e t (close_quotient n D _ some t)

minus : (m D : ℕ) (b : Bool) → 0 < D → is_short (suc m) D ≡ b →
    Shows (over (negsuc m) (pos D)) (shown (not b) true (if b then trimmed 6 (suc m * 1000000 / D) else trimmed 3 ((suc m * 2000 + D) / (D * 2))))
minus m D true some e = minus_exact m D (suc m * 1000000 / D) _ (whole_quotient (suc m) D e) (is_trimmed 6 (suc m * 1000000 / D))
minus m D false some e =
    let t = is_trimmed 3 ((suc m * 2000 + D) / (D * 2)) in
    minus_near m D ((suc m * 2000 + D) / (D * 2)) _ e t (close_quotient (suc m) D _ some t)

shows : (num : ℤ) (D : ℕ) → 0 < D →
    Shows (over num (pos D)) (shown (not (is_short (unsigned_abs num) D)) (int_lt num (pos 0)) (size_of (unsigned_abs num) D))
shows (pos n) D some =
    subst (λ (v : Bool). Shows (over (pos n) (pos D)) (shown (not (is_short n D)) v (size_of n D))) (sym (below_zero n)) (plus n D (is_short n D) some refl)
shows (negsuc m) D some = minus m D (is_short (suc m) D) some refl

positive_scale : (unit : Unit) (k : ℕ) → 1 ≤ k → 0 < k * femtoseconds unit
positive_scale Femto k h = omega arith
positive_scale Pico k h = omega arith
positive_scale Nano k h = omega arith

by_parts : (unit : Unit) (num den : ℤ) → pos 1 ≤ℤ den → Shows (in_unit unit (over num den)) (shown_in unit (over num den))
unfolding shown
by_parts unit num (pos k) some = shows num (k * femtoseconds unit) (positive_scale unit k (omega (arith, ints)))
by_parts unit num (negsuc k) some = absurd (omega (arith, ints))

pub amounts_are_near : AmountsAreNear
amounts_are_near unit a positive = by_parts unit a.num a.den positive
