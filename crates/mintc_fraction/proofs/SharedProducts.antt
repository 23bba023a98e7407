-- Laws of products of integers; an integer is read as `up z - down z`.
use Rattle.std.proofs.Common.{◌≡◌, ℕ, ◌*◌, ◌+◌, ◌<◌, ◌≤◌, ℤ, pos, negsuc, ◌≤ℤ◌, ◌+ℤ◌, ◌*ℤ◌, arith, ap, sym, ◌∙◌}
use Rattle.std.proofs.lemmas.Int.{ints}
use Rattle.std.proofs.Math.Nat.{mul-le-mul_left, le_of_mul-le-mul_left}
use Rattle.std.proofs.Math.IntN.{*ℤ_comm}
use borrow.Author.Differences.{up, down, product_is}

pub times-assoc : (x y z : ℤ) → (x *ℤ y) *ℤ z ≡ x *ℤ (y *ℤ z)
times-assoc x y z =
    let a = product_is x y in
    let b = product_is y z in
    omega (
      arith,
      ints,
      ap (λ v. v * up z) a.0,
      ap (λ v. v * down z) a.0,
      ap (λ v. v * up z) a.1,
      ap (λ v. v * down z) a.1,
      ap (λ v. up x * v) b.0,
      ap (λ v. down x * v) b.0,
      ap (λ v. up x * v) b.1,
      ap (λ v. down x * v) b.1,
    )

-- a product with a sum
pub add-times : (x y z : ℤ) → (x +ℤ y) *ℤ z ≡ x *ℤ z +ℤ y *ℤ z
add-times x y z =
    let e : up (x +ℤ y) + (down x + down y) ≡ down (x +ℤ y) + (up x + up y) = omega (arith, ints) in
    omega (arith, ints, ap (λ v. v * up z) e, ap (λ v. v * down z) e)

-- the last two factors changed round, and the inner two of four
pub swap-times : (x y z : ℤ) → (x *ℤ y) *ℤ z ≡ (x *ℤ z) *ℤ y
swap-times x y z = times-assoc x y z ∙ ap (λ v. x *ℤ v) (*ℤ_comm y z) ∙ sym (times-assoc x z y)

pub medial-times : (x y z w : ℤ) → (x *ℤ y) *ℤ (z *ℤ w) ≡ (x *ℤ z) *ℤ (y *ℤ w)
medial-times x y z w =
    sym (times-assoc (x *ℤ y) z w) ∙ ap (λ v. v *ℤ w) (swap-times x y z) ∙ times-assoc (x *ℤ z) y w

-- an order, times a number that is not negative, and the way back from a positive one
times-mono : (x y : ℤ) (n : ℕ) → x ≤ℤ y → (x *ℤ pos n) ≤ℤ (y *ℤ pos n)
times-mono x y n h =
    let e : up x + down y ≤ up y + down x = omega (arith, ints) in
    omega (arith, ints, mul-le-mul_left n e)

times-cancel : (x y : ℤ) (n : ℕ) → 0 < n → (x *ℤ pos n) ≤ℤ (y *ℤ pos n) → x ≤ℤ y
times-cancel x y n p h =
    let e : n * (up x + down y) ≤ n * (up y + down x) = omega (arith, ints) in
    let f : up x + down y ≤ up y + down x = le_of_mul-le-mul_left e p in
    omega (arith, ints)

pub times-mono_positive : (x y z : ℤ) → x ≤ℤ y → pos 1 ≤ℤ z → (x *ℤ z) ≤ℤ (y *ℤ z)
times-mono_positive x y (pos n) h p = times-mono x y n h
times-mono_positive x y (negsuc n) h p = absurd (omega (arith, ints))

pub times-cancel_positive : (x y z : ℤ) → pos 1 ≤ℤ z → (x *ℤ z) ≤ℤ (y *ℤ z) → x ≤ℤ y
times-cancel_positive x y (pos n) p h = times-cancel x y n (omega (arith, ints)) h
times-cancel_positive x y (negsuc n) p h = absurd (omega (arith, ints))

pub times-cancel_equal : (x y z : ℤ) → pos 1 ≤ℤ z → x *ℤ z ≡ y *ℤ z → x ≡ y
times-cancel_equal x y z p e =
    let low = times-cancel_positive x y z p (omega (arith, ints)) in
    let high = times-cancel_positive y x z p (omega (arith, ints)) in
    omega (arith, ints)

-- a product of positive numbers is positive
pub times-positive : (x y : ℤ) → pos 1 ≤ℤ x → pos 1 ≤ℤ y → pos 1 ≤ℤ (x *ℤ y)
times-positive x y p q =
    let e = times-mono_positive (pos 1) x y p q in
    omega (arith, ints)
