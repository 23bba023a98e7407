-- The least of some numbers rounded down, and the greatest rounded up.
use Rattle.std.proofs.Common.{int_lt, ◌≡◌, ℕ, suc, ◌+◌, ◌*◌, ◌/◌, ◌%◌, ◌^◌, ◌≤◌, nat_lt, Bool, true, false, if◌then◌else◌, List, [], ◌∷◌, get_or, refl, arith, ℤ, pos, ◌≤ℤ◌, ◌<ℤ◌, ◌+ℤ◌, ◌*ℤ◌, All, Any}
use Rattle.std.specs.Int.{int_min, int_max}
use Rattle.std.proofs.lemmas.Int.{ints, clamps}
use Rattle.std.proofs.lemmas.List.Elements.{All-cons}
use Rattle.std.proofs.Math.Nat.{mul-le-mul_left}
use borrow.Author.Differences.{up, down}
use Rattle.mintc_decimal.specs.Decimals.{Number, over, under, IsFloor, IsCeiling}
use Rattle.mintc_decimal.proofs.SharedRoundingLaws.{floor_is, ceiling_is}
use Rattle.mintc_sdf.specs.Numbers.{is_far, rounded_down, rounded_up, least, greatest}
use Rattle.mintc_sdf.specs.Laws.{femtoseconds, IsLeast, IsGreatest}
use Rattle.mintc_sdf.proofs.RoundLaws.{quotient, under-some}
use Rattle.mintc_sdf.proofs.RangeLaws.{near-most}

times-mono : (x y : ℤ) (n : ℕ) → x ≤ℤ y → (x *ℤ pos n) ≤ℤ (y *ℤ pos n)
times-mono x y n h =
    let e : up x + down y ≤ up y + down x = omega (arith, ints) in
    omega (arith, ints, mul-le-mul_left n e)

Any-head : {X : Type 0} (P : X → Type 0) (x : X) (xs : List X) → P x → Any P (x ∷ xs)
Any-head P x xs h = (0, x, omega arith, refl, h)

Any-later : {X : Type 0} (P : X → Type 0) (x : X) (xs : List X) → Any P xs → Any P (x ∷ xs)
Any-later P x xs h = (suc h.0, h.1, omega arith, h.3, h.4)

-- one number
floor : (scale : ℕ) (v : Number) → is_far scale v ≡ false → IsFloor (femtoseconds scale v) (under v) (rounded_down scale v)
floor scale v far =
    let o = over v scale in
    let d = under v in
    let some = under-some v in
    floor_is v.negative (nat_lt 0 (o % d)) o d (o / d) some (quotient o d some (near-most (10 ^ 9 * d) o far))

ceiling : (scale : ℕ) (v : Number) → is_far scale v ≡ false → IsCeiling (femtoseconds scale v) (under v) (rounded_up scale v)
ceiling scale v far =
    let o = over v scale in
    let d = under v in
    let some = under-some v in
    ceiling_is v.negative (nat_lt 0 (o % d)) o d (o / d) some (quotient o d some (near-most (10 ^ 9 * d) o far))

-- what is above none stays so further down, and what is below none further up
abbrev Above : ℕ → ℤ → Number → Type 0
Above scale z v = (z *ℤ pos (under v)) ≤ℤ femtoseconds scale v

abbrev Below : ℕ → ℤ → Number → Type 0
Below scale z v = femtoseconds scale v ≤ℤ (z *ℤ pos (under v))

lower : (scale : ℕ) (x z : ℤ) (v : Number) → x ≤ℤ z → Above scale z v → Above scale x v
lower scale x z v h e = let m = times-mono x z (under v) h in omega (arith, ints, m, e)

higher : (scale : ℕ) (x z : ℤ) (v : Number) → z ≤ℤ x → Below scale z v → Below scale x v
higher scale x z v h e = let m = times-mono z x (under v) h in omega (arith, ints, m, e)

least-is : (scale : ℕ) (v : Number) (vs : List Number) → All (λ u. is_far scale u ≡ false) (v ∷ vs) → IsLeast scale (v ∷ vs) (least scale v vs)
least-is scale v [] h = let f = floor scale v (h 0 v (omega arith)) in (All-cons (Above scale (rounded_down scale v)) v [] f.0 (λ k d g. absurd (omega arith)), Any-head _ v [] f.1)
least-is scale v (u ∷ us) h =
    let f = floor scale v (h 0 v (omega arith)) in
    let r = least-is scale u us (λ k d g. h (suc k) d (omega arith)) in
    let x = rounded_down scale v in
    let z = least scale u us in (
      All-cons (Above scale (int_min x z)) v (u ∷ us) (lower scale (int_min x z) x v (omega (arith, ints, clamps)) f.0) (λ k d g. lower scale (int_min x z) z (get_or (u ∷ us) k d) (omega (arith, ints, clamps)) (r.0 k d g)),
      some (int_lt z x) x z f.1 r.1,
    )
  where
    some : (b : Bool) (x z : ℤ) → femtoseconds scale v <ℤ ((x *ℤ pos (under v)) +ℤ pos (under v)) → Any (λ w. femtoseconds scale w <ℤ ((z *ℤ pos (under w)) +ℤ pos (under w))) (u ∷ us) →
        Any (λ w. femtoseconds scale w <ℤ (((if b then z else x) *ℤ pos (under w)) +ℤ pos (under w))) (v ∷ u ∷ us)
    some true x z f r = Any-later _ v (u ∷ us) r
    some false x z f r = Any-head _ v (u ∷ us) f

greatest-is : (scale : ℕ) (v : Number) (vs : List Number) → All (λ u. is_far scale u ≡ false) (v ∷ vs) → IsGreatest scale (v ∷ vs) (greatest scale v vs)
greatest-is scale v [] h = let f = ceiling scale v (h 0 v (omega arith)) in (All-cons (Below scale (rounded_up scale v)) v [] f.0 (λ k d g. absurd (omega arith)), Any-head _ v [] f.1)
greatest-is scale v (u ∷ us) h =
    let f = ceiling scale v (h 0 v (omega arith)) in
    let r = greatest-is scale u us (λ k d g. h (suc k) d (omega arith)) in
    let x = rounded_up scale v in
    let z = greatest scale u us in (
      All-cons (Below scale (int_max x z)) v (u ∷ us) (higher scale (int_max x z) x v (omega (arith, ints, clamps)) f.0) (λ k d g. higher scale (int_max x z) z (get_or (u ∷ us) k d) (omega (arith, ints, clamps)) (r.0 k d g)),
      some (int_lt z x) x z f.1 r.1,
    )
  where
    some : (b : Bool) (x z : ℤ) → (x *ℤ pos (under v)) <ℤ (femtoseconds scale v +ℤ pos (under v)) → Any (λ w. (z *ℤ pos (under w)) <ℤ (femtoseconds scale w +ℤ pos (under w))) (u ∷ us) →
        Any (λ w. ((if b then x else z) *ℤ pos (under w)) <ℤ (femtoseconds scale w +ℤ pos (under w))) (v ∷ u ∷ us)
    some true x z f r = Any-head _ v (u ∷ us) f
    some false x z f r = Any-later _ v (u ∷ us) r

pub rounded : (scale : ℕ) (v : Number) (vs : List Number) → All (λ u. is_far scale u ≡ false) (v ∷ vs) → IsLeast scale (v ∷ vs) (least scale v vs) × IsGreatest scale (v ∷ vs) (greatest scale v vs)
rounded scale v vs h = (least-is scale v vs h, greatest-is scale v vs h)
