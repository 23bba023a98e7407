-- A fraction that is rounded up and down to one number is that number.
use Rattle.std.proofs.Common.{◌≡◌, ◌∙◌, inl, inr, ℕ, ◌+◌, ◌*◌, ◌/◌, ◌%◌, ◌==◌, ◌&&◌, ◌<◌, ◌≤◌, ◌^◌, ℤ, pos, negsuc}
use Rattle.std.proofs.Common.{Bool, true, false, true≢false, refl, sym, ap, subst, arith, Option, Some, None}
use Rattle.std.specs.Prelude.{nat_le, if◌then◌else◌}
use Rattle.std.proofs.lemmas.Bool.{cases_lt}
use Rattle.std.proofs.lemmas.Int.{ints}
use Rattle.std.proofs.lemmas.Nat.{div-mul-add, mod-mul-add, div-add-mod'}
use Rattle.std.proofs.Math.Nat.{mul-le-mul_right}
use Rattle.mintc_decimal.specs.Decimals.{IsFar, IsFloor, IsCeiling, with_sign}
use Rattle.mintcx_manners.specs.Times.{whole_of}

-- multiples of one number
exact_div : (q d : ℕ) → 0 < d → (q * d) / d ≡ q
exact_div q d some = let same : q * d + 0 ≡ q * d = omega arith in ap (λ n. n / d) (sym same) ∙ div-mul-add q d 0 some

exact_mod : (q d : ℕ) → 0 < d → (q * d) % d ≡ 0
exact_mod q d some = let same : q * d + 0 ≡ q * d = omega arith in ap (λ n. n % d) (sym same) ∙ mod-mul-add q d 0 some

next_times : (q d : ℕ) → (q + 1) * d ≡ q * d + d
next_times q d = grind arith

between : (q d u : ℕ) → 0 < d → q * d ≤ u * d → u * d < q * d + d → u ≡ q
between q d u some low high = elim (cases_lt u q) [
  | inl less ↦
      let below : u + 1 ≤ q = omega (arith, less) in
      absurd (omega (arith, low, some, next_times u d, mul-le-mul_right d below))
  | inr past ↦ elim (cases_lt q u) [
    | inl more ↦
        let above : q + 1 ≤ u = omega (arith, more) in
        absurd (omega (arith, high, next_times q d, mul-le-mul_right d above))
    | inr same ↦ omega (arith, past, same)
  ]
]

-- a multiple is rounded to itself
ceiling_of_multiple : (q d : ℕ) (u : ℤ) → 0 < d → IsCeiling (pos (q * d)) d u → u ≡ pos q
ceiling_of_multiple q d (pos u) some h = ap pos (between q d u some (omega (arith, ints, h.0)) (omega (arith, ints, h.1)))
ceiling_of_multiple q d (negsuc u) some h =
    let least : 0 * d ≤ u * d = mul-le-mul_right d (omega arith) in
    absurd (omega (arith, ints, h.0, some, next_times u d, least))

floor_of_multiple : (q d : ℕ) (l : ℤ) → 0 < d → IsFloor (pos (q * d)) d l → l ≡ pos q
floor_of_multiple q d (pos l) some h = ap pos (sym (between l d q some (omega (arith, ints, h.0)) (omega (arith, ints, h.1))))
floor_of_multiple q d (negsuc l) some h =
    let least : 0 * d ≤ l * d = mul-le-mul_right d (omega arith) in
    absurd (omega (arith, ints, h.1, some, next_times l d, least))

-- one number that is both is the fraction
whole_some : (n d q : ℕ) → 0 < d → 1 ≤ q → q ≤ 1000000000 → IsCeiling (pos n) d (pos q) → IsFloor (pos n) d (pos q) → whole_of n d ≡ Some q
whole_some n d q some least most up down =
    let same : n ≡ q * d = omega (arith, ints, up.0, down.0) in
    rw (same, exact_mod q d some, exact_div q d some) (grind (arith, least, most))

-- where no multiple in the limits is the fraction
none_of : (n d : ℕ) → ((q : ℕ) → n ≡ q * d → 1 ≤ q → q ≤ 1000000000 → ⊥) → whole_of n d ≡ None
none_of n d excludes = go ((n % d == 0) && (nat_le 1 (n / d) && nat_le (n / d) 1000000000)) refl
  where
    go : (t : Bool) → ((n % d == 0) && (nat_le 1 (n / d) && nat_le (n / d) 1000000000)) ≡ t → (if t then Some (n / d) else None) ≡ None
    go false e = refl
    go true e =
        let exact : n % d ≡ 0 = grind (arith, e) in
        let same : n ≡ (n / d) * d = omega (arith, exact, div-add-mod' n d) in
        absurd (excludes (n / d) same (grind (arith, e)) (grind (arith, e)))

-- a fraction above 10^9
whole_far : (n d : ℕ) → IsFar n d → whole_of n d ≡ None
whole_far n d far = none_of n d (λ q same least most. omega (arith, far, same, mul-le-mul_right d most))

-- one that is rounded up and down to two numbers, or to one out of the limits
whole_none : (n d : ℕ) (u l : ℤ) → 0 < d → IsCeiling (pos n) d u → IsFloor (pos n) d l
    → ((q : ℕ) → u ≡ pos q → l ≡ pos q → 1 ≤ q → q ≤ 1000000000 → ⊥) → whole_of n d ≡ None
whole_none n d u l some up down excludes = none_of n d (λ q same least most.
    excludes q (ceiling_of_multiple q d u some (subst (λ (m : ℕ). IsCeiling (pos m) d u) same up))
    (floor_of_multiple q d l some (subst (λ (m : ℕ). IsFloor (pos m) d l) same down)) least most)

-- the same, where the fraction has a sign

-- one number in the limits that is both
pub whole_at : (negative : Bool) (n d : ℕ) (u l : ℤ) (r : ℕ) → negative ≡ false → 0 < d → IsCeiling (with_sign negative n) d u
    → IsFloor (with_sign negative n) d l → u ≡ l → u ≡ pos r → 1 ≤ r → r ≤ 1000000000 → Some r ≡ (if negative then None else whole_of n d)
whole_at true n d u l r plus some up down same is least most = absurd (true≢false plus)
whole_at false n d u l r plus some up down same is least most =
    sym (whole_some n d r some least most (subst (IsCeiling (pos n) d) is up) (subst (IsFloor (pos n) d) (sym same ∙ is) down))

-- a fraction too far
pub far_at : (negative : Bool) (n d : ℕ) → IsFar n d → None ≡ (if negative then None else whole_of n d)
far_at true n d far = refl
far_at false n d far = sym (whole_far n d far)

-- no number in the limits that is both
pub none_at : (negative : Bool) (n d : ℕ) (u l : ℤ) → 0 < d → IsCeiling (with_sign negative n) d u → IsFloor (with_sign negative n) d l
    → ((q : ℕ) → u ≡ pos q → l ≡ pos q → 1 ≤ q → q ≤ 1000000000 → ⊥) → None ≡ (if negative then None else whole_of n d)
none_at true n d u l some up down excludes = refl
none_at false n d u l some up down excludes = sym (whole_none n d u l some up down excludes)
