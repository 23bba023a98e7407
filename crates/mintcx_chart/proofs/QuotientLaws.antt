-- Quotients that are rounded down are no larger than what is divided.
use Rattle.std.proofs.Common.{◌≡◌, ℕ, ◌+◌, ◌*◌, ◌<◌, ◌≤◌, ℤ, pos, negsuc, neg_ℤ, ◌≤ℤ◌, ◌<ℤ◌, ◌+ℤ◌, ◌*ℤ◌, arith}
use Rattle.std.specs.Int.{int_div_euclid}
use Rattle.std.proofs.lemmas.Int.{ints}
use Rattle.std.proofs.Math.Nat.{div-add-mod, div-le_self, mod-lt, mul-le-mul_left}

quotient_low : (x y : ℤ) → pos 1 ≤ℤ y → (int_div_euclid x y *ℤ y) ≤ℤ x
quotient_low (pos a) (pos b) p = omega (arith, ints, div-add-mod a b)
quotient_low (negsuc a) (pos b) p =
    let some : 0 < b = omega (arith, ints) in
    omega (arith, ints, div-add-mod a b, mod-lt a some)
quotient_low x (negsuc b) p = absurd (omega (arith, ints))

quotient_high : (x y : ℤ) → pos 1 ≤ℤ y → x <ℤ (int_div_euclid x y *ℤ y +ℤ y)
quotient_high (pos a) (pos b) p =
    let some : 0 < b = omega (arith, ints) in
    omega (arith, ints, div-add-mod a b, mod-lt a some)
quotient_high (negsuc a) (pos b) p = omega (arith, ints, div-add-mod a b)
quotient_high x (negsuc b) p = absurd (omega (arith, ints))

low_by : (q x y : ℤ) (n : ℕ) → pos 1 ≤ℤ y → x <ℤ (q *ℤ y +ℤ y) → neg_ℤ (pos n) ≤ℤ x → neg_ℤ (pos n) ≤ℤ q
low_by (pos q) x y n p h low = omega (arith, ints, low)
low_by (negsuc q) x (pos b) n p h low =
    let e : q * 1 ≤ q * b = mul-le-mul_left q (omega (arith, ints)) in
    omega (arith, ints, e, h, low)
low_by (negsuc q) x (negsuc b) n p h low = absurd (omega (arith, ints))

high_by : (q x y : ℤ) (n : ℕ) → pos 1 ≤ℤ y → (q *ℤ y) ≤ℤ x → x ≤ℤ pos n → q ≤ℤ pos n
high_by (negsuc q) x y n p h high = omega (arith, ints)
high_by (pos q) x (pos b) n p h high =
    let e : q * 1 ≤ q * b = mul-le-mul_left q (omega (arith, ints)) in
    omega (arith, ints, e, h, high)
high_by (pos q) x (negsuc b) n p h high = absurd (omega (arith, ints))

-- a quotient is in the range of what is divided
pub quotient_least : (x y : ℤ) (n : ℕ) → pos 1 ≤ℤ y → neg_ℤ (pos n) ≤ℤ x → neg_ℤ (pos n) ≤ℤ int_div_euclid x y
quotient_least x y n p low = low_by (int_div_euclid x y) x y n p (quotient_high x y p) low

pub quotient_most : (x y : ℤ) (n : ℕ) → pos 1 ≤ℤ y → x ≤ℤ pos n → int_div_euclid x y ≤ℤ pos n
quotient_most x y n p high = high_by (int_div_euclid x y) x y n p (quotient_low x y p) high
