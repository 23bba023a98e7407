-- Lowest terms.
use Rattle.std.proofs.Common.{◌≡◌, ℕ, zero, suc, ◌*◌, ◌<◌, ◌≤◌, ℤ, pos, negsuc, ◌≤ℤ◌, ◌*ℤ◌, sym, ap, ◌∙◌, subst, arith}
use Rattle.std.specs.Prelude.{unsigned_abs}
use Rattle.std.specs.Int.{IsGcd, ◌∣◌}
use Rattle.std.proofs.lemmas.Int.{ints, unsigned_abs-mul}
use Rattle.std.proofs.lemmas.Nat.Gcd.{le_from_IsGcd}
use Rattle.std.proofs.Math.Nat.{dvd-mul_left, mul-le-mul_left, mul-le-mul_right}
use Rattle.mintc_fraction.specs.Ratio.{Ratio, IsFraction, IsEqual, Divides, IsLowest, IsWithin}
use Rattle.mintc_fraction.proofs.SharedProducts.{times-assoc, swap-times}

-- the fraction b is a with both numbers divided by g
pub record IsDivided (a b : Ratio) (g : ℤ) : Type 0 where
  pub some : pos 1 ≤ℤ g
  pub num : b.num *ℤ g ≡ a.num
  pub den : b.den *ℤ g ≡ a.den

pub IsDivided-equal : (a b : Ratio) (g : ℤ) → IsDivided a b g → IsEqual b a
IsDivided-equal a b g h =
    ap (λ v. b.num *ℤ v) (sym h.den) ∙ sym (times-assoc b.num b.den g) ∙ swap-times b.num b.den g ∙ ap (λ v. v *ℤ b.den) h.num

positive_pos : (n g : ℕ) → 1 ≤ n * g → pos 1 ≤ℤ pos n
positive_pos zero g h = absurd (omega arith)
positive_pos (suc n) g h = omega (arith, ints)

positive : (d g : ℤ) → pos 1 ≤ℤ g → pos 1 ≤ℤ (d *ℤ g) → pos 1 ≤ℤ d
positive (pos n) (pos g) p h = positive_pos n g (omega (arith, ints))
positive (negsuc n) (pos g) p h = absurd (omega (arith, ints))
positive d (negsuc g) p h = absurd (omega (arith, ints))

pub IsDivided-positive : (a b : Ratio) (g : ℤ) → IsFraction a → IsDivided a b g → IsFraction b
IsDivided-positive a b g p h = let e = h.den in positive b.den g h.some (omega (arith, ints))

-- a quotient is no larger
size_of_quotient : (x y g : ℤ) (n : ℕ) → pos 1 ≤ℤ g → y *ℤ g ≡ x → unsigned_abs x ≤ n → unsigned_abs y ≤ n
size_of_quotient x y g n some e h =
    let product = unsigned_abs-mul y g in
    let same : unsigned_abs (y *ℤ g) ≡ unsigned_abs x = ap unsigned_abs e in
    let one : 1 ≤ unsigned_abs g = omega (arith, ints) in
    let more : unsigned_abs y * 1 ≤ unsigned_abs y * unsigned_abs g = mul-le-mul_left (unsigned_abs y) one in
    omega (arith, product, same, more, h)

pub IsDivided-within : (a b : Ratio) (g : ℤ) → IsFraction a → IsDivided a b g → (n d : ℕ) → IsWithin n d a → IsWithin n d b
IsDivided-within a b g p h n d k =
    let whole = k.den in
    let size : unsigned_abs a.den ≤ d = omega (arith, ints) in
    let small = size_of_quotient a.den b.den g d h.some h.den size in
    record { num = size_of_quotient a.num b.num g n h.some h.num k.num; den = omega (arith, ints) }

-- a divisor of the quotient, times what was divided by, divides the number
divides_whole : (k x y g : ℤ) → y *ℤ g ≡ x → Divides k y → unsigned_abs k * unsigned_abs g ∣ unsigned_abs x
divides_whole k x y g e d =
    let m : ℤ = d.0 in
    let f : m *ℤ k ≡ y = d.1 in
    let inner : unsigned_abs (m *ℤ k) ≡ unsigned_abs m * unsigned_abs k = unsigned_abs-mul m k in
    let outer : unsigned_abs (y *ℤ g) ≡ unsigned_abs y * unsigned_abs g = unsigned_abs-mul y g in
    let all : unsigned_abs m * (unsigned_abs k * unsigned_abs g) ≡ unsigned_abs x =
    omega (arith, ap (λ v. v * unsigned_abs g) inner, ap (λ (v : ℤ). unsigned_abs v * unsigned_abs g) f, outer, ap unsigned_abs e) in
    subst (λ v. unsigned_abs k * unsigned_abs g ∣ v) all (dvd-mul_left (unsigned_abs k * unsigned_abs g) (unsigned_abs m))

pub IsDivided-lowest : (a b : Ratio) (g : ℤ) → IsDivided a b g → IsGcd (unsigned_abs a.num) (unsigned_abs a.den) (unsigned_abs g) → IsLowest b
IsDivided-lowest a b g h gcd k above num den =
    let some = h.some in
    let one : 0 < unsigned_abs g = omega (arith, ints) in
    let both = le_from_IsGcd (unsigned_abs a.num) (unsigned_abs a.den) (unsigned_abs g) (unsigned_abs k * unsigned_abs g) gcd one
    (divides_whole k a.num b.num g h.num num) (divides_whole k a.den b.den g h.den den) in
    let two : 2 ≤ unsigned_abs k = omega (arith, ints) in
    let more : 2 * unsigned_abs g ≤ unsigned_abs k * unsigned_abs g = mul-le-mul_right (unsigned_abs g) two in
    omega (arith, both, more)
