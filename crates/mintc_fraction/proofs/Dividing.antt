-- Quotients and the turns of Euclid's algorithm.
use Rattle.std.proofs.Common.{◌≡◌, ℕ, suc, ◌+◌, ◌*◌, ◌/◌, ◌%◌, ◌^◌, ◌<◌, ◌≤◌, ℤ, pos, negsuc, neg_ℤ, ◌≤ℤ◌, ◌<ℤ◌, ◌+ℤ◌, ◌*ℤ◌, ap, arith, add-one, zero, refl, subst}
use Rattle.std.specs.Prelude.{unsigned_abs, int_div, int_rem}
use Rattle.std.specs.Int.{int_div_euclid, ◌∣◌}
use Rattle.std.proofs.lemmas.Int.{ints, quot-rem}
use Rattle.std.proofs.Math.Nat.{div-add-mod, mod-lt, one-le-mul, eq-zero_of_zero-dvd, mul-le-mul_left, mul-le-mul_right, two-pow-succ}
use Rattle.std.proofs.lemmas.Nat.{mul-le}
use Rattle.std.proofs.lemmas.Nat.Gcd.{mod-eq-zero_of_dvd, le_of_dvd}

-- the quotient that rounds down
pub div_euclid-low : (x y : ℤ) → pos 1 ≤ℤ y → (int_div_euclid x y *ℤ y) ≤ℤ x
div_euclid-low (pos a) (pos b) p = omega (arith, ints, div-add-mod a b)
div_euclid-low (negsuc a) (pos b) p =
    let some : 0 < b = omega (arith, ints) in
    omega (arith, ints, div-add-mod a b, mod-lt a some)
div_euclid-low x (negsuc b) p = absurd (omega (arith, ints))

pub div_euclid-high : (x y : ℤ) → pos 1 ≤ℤ y → x <ℤ (int_div_euclid x y *ℤ y +ℤ y)
div_euclid-high (pos a) (pos b) p =
    let some : 0 < b = omega (arith, ints) in
    omega (arith, ints, div-add-mod a b, mod-lt a some)
div_euclid-high (negsuc a) (pos b) p = omega (arith, ints, div-add-mod a b)
div_euclid-high x (negsuc b) p = absurd (omega (arith, ints))

-- it is no larger than what is divided
pub size_of_floor : (x y q : ℤ) (n : ℕ) → pos 1 ≤ℤ y → (q *ℤ y) ≤ℤ x → x <ℤ (q *ℤ y +ℤ y) → unsigned_abs x ≤ n → unsigned_abs q ≤ n
size_of_floor x (pos b) (pos q) n p low high h =
    let e : q * 1 ≤ q * b = mul-le-mul_left q (omega (arith, ints)) in
    omega (arith, ints)
size_of_floor x (pos b) (negsuc q) n p low high h =
    let e : q * 1 ≤ q * b = mul-le-mul_left q (omega (arith, ints)) in
    omega (arith, ints)
size_of_floor x (negsuc b) q n p low high h = absurd (omega (arith, ints))

rem_zero : (x : ℤ) (d : ℕ) → unsigned_abs x % d ≡ 0 → int_rem x (pos d) ≡ pos 0
rem_zero (pos a) d e = ap pos e
rem_zero (negsuc a) d e = ap (λ n. neg_ℤ (pos n)) e

-- what is divided by a divisor
pub div-exact : (x y : ℤ) → pos 1 ≤ℤ y → unsigned_abs y ∣ unsigned_abs x → int_div x y *ℤ y ≡ x
div-exact x (pos d) p h =
    let none = rem_zero x d (mod-eq-zero_of_dvd d h) in
    let e = quot-rem x (pos d) in
    omega (arith, ints)
div-exact x (negsuc d) p h = absurd (omega (arith, ints))

-- a turn of Euclid's algorithm at least halves the product
pub turn_halves : (a b t n : ℕ) → b < a → 0 < b → a * b * 2 ^ t < n → b * (a % b) * 2 ^ (t + 1) < n
turn_halves a b t n less some small =
    let whole = div-add-mod a b in
    let left = mod-lt a some in
    let once : b * 1 ≤ b * (a / b) = mul-le-mul_left b (grind (arith, whole, left)) in
    let half : 2 * (a % b) ≤ a = omega (arith, whole, left, once) in
    let halves : b * (2 * (a % b)) * 2 ^ t ≤ b * a * 2 ^ t = mul-le-mul_right (2 ^ t) (mul-le-mul_left b half) in
    let twice : 2 ^ (t + 1) ≡ 2 ^ t + 2 ^ t = rw (add-one t) (two-pow-succ t) in
    let all : b * (a % b) * 2 ^ (t + 1) ≡ b * (a % b) * (2 ^ t + 2 ^ t) = ap (λ v. b * (a % b) * v) twice in
    omega (arith, halves, all, small)

-- a product that has been halved 80 times
pub none_left : (a b t : ℕ) → t ≡ 80 → b < a → a * b * 2 ^ t < 2 ^ 80 → b ≡ 0
none_left a zero t e less small = refl
none_left a (suc b) t e less small =
    let some : 1 ≤ a * suc b = one-le-mul (omega arith) (omega arith) in
    let full : a * suc b * 2 ^ 80 < 2 ^ 80 = subst (λ v. a * suc b * 2 ^ v < 2 ^ 80) e small in
    absurd (omega arith)

pub first_product : (x y : ℕ) → 0 < y → y ≤ 10 ^ 12 → y * (x % y) * 1 < 2 ^ 80
first_product x y some few =
    let left = mod-lt x some in
    let most = mul-le y (x % y) (10 ^ 12) (10 ^ 12) few (omega (arith, left)) in
    omega (arith, most)

-- a divisor of a number that is at least 1
pub size_of_divisor : (g y : ℕ) → 1 ≤ y → g ∣ y → (1 ≤ g) × (g ≤ y)
size_of_divisor zero y some h = let none = eq-zero_of_zero-dvd h in absurd (omega (arith, none))
size_of_divisor (suc g) y some h = (omega arith, le_of_dvd some h)
