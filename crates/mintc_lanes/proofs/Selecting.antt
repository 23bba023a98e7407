-- What the operations on vectors give at each number.
use Rattle.std.proofs.Common.{◌≡◌, ℕ, ◌+◌, ◌-◌, ◌%◌, ◌^◌, ◌<◌, ℤ, pos, ◌+ℤ◌, ◌-ℤ◌, Bool, true, false, cond, eqb, List, length, get_or, refl, sym, ap, ◌∙◌, subst, arith, w64, to_z, of_z, SFits, map, lit<}
use Rattle.std.specs.Int.{int_max, int_min}
use Rattle.std.specs.Ordering.{int_eq}
use Rattle.std.proofs.lemmas.Bool.Decides.{same_from_decides, Decides-int_eq, Decides-eqb}
use Rattle.std.proofs.lemmas.Int.{ints, clamps, to_z-of_z, wrapping_add_is, wrapping_sub_is, int_wrap_fits}
use Rattle.std.proofs.lemmas.List.{get_or-map}
use Rattle.std.proofs.Math.ListN.{length-map}
use Rattle.std.proofs.lemmas.Simd.{tops_compared, length-zip2, length-sel_l, get_or-sel_l, get_or-zip2, get_or-replicate, length-replicate}
use Rattle.std.specs.Prelude.{replicate}
use lib.Lanes.{zip2, sel_l, top}
use lib.Signed.{lt_z}
use Rattle.mintc_lanes.specs.declared.TheConstants.{ABSENT}
use Rattle.mintc_lanes.specs.Vectors.{IsVector, HasNumbers, number_at, where_absent_at}

-- a vector by its count and its numbers
pub IsVector-from_numbers : (v : List ℤ) (number : ℕ → ℤ) → length v ≡ 8 → HasNumbers v number → ((k : ℕ) → k < 8 → SFits w64 (number k)) → IsVector v
IsVector-from_numbers v number count is fits =
    record { count = count; fits = λ k lt. subst (SFits w64) (sym (is k lt)) (fits k lt) }

-- the bits of each number
abbrev pub bits_of : List ℤ → List ℕ
bits_of vector = map (of_z w64) vector

pub length-bits_of : (vector : List ℤ) → length (bits_of vector) ≡ length vector
length-bits_of vector = length-map vector (of_z w64)

pub bits_at : (vector : List ℤ) (k : ℕ) → k < length vector → get_or (bits_of vector) k 0 ≡ of_z w64 (number_at vector k)
bits_at vector k lt = get_or-map (of_z w64) vector k ABSENT 0 lt

-- all ones where a test holds
abbrev pub flag : (ℕ → ℕ → Bool) → ℕ → ℕ → ℕ
flag t a b = cond (t a b) (2 ^ 64 - 1) 0

-- a comparison, and a choice by it
abbrev pub selected : (ℕ → ℕ → Bool) → List ℕ → List ℕ → List ℕ → List ℕ → List ℤ
selected t us vs xs ys = map (to_z w64) (sel_l (map (top 63) (zip2 (flag t) us vs)) xs ys)

length-tops : (t : ℕ → ℕ → Bool) (us vs : List ℕ) → length us ≡ 8 → length vs ≡ 8 → length (map (top 63) (zip2 (flag t) us vs)) ≡ 8
length-tops t us vs lu lv = length-map (zip2 (flag t) us vs) (top 63) ∙ length-zip2 (flag t) us vs (lu ∙ sym lv) ∙ lu

length-choice : (t : ℕ → ℕ → Bool) (us vs xs ys : List ℕ) → length us ≡ 8 → length vs ≡ 8 → length xs ≡ 8 → length ys ≡ 8 →
    length (sel_l (map (top 63) (zip2 (flag t) us vs)) xs ys) ≡ 8
length-choice t us vs xs ys lu lv lx ly =
    let tops = length-tops t us vs lu lv in
    length-sel_l (map (top 63) (zip2 (flag t) us vs)) xs ys (tops ∙ sym lx) (tops ∙ sym ly) ∙ tops

pub length-selected : (t : ℕ → ℕ → Bool) (us vs xs ys : List ℕ) → length us ≡ 8 → length vs ≡ 8 → length xs ≡ 8 → length ys ≡ 8 → length (selected t us vs xs ys) ≡ 8
length-selected t us vs xs ys lu lv lx ly =
    length-map (sel_l (map (top 63) (zip2 (flag t) us vs)) xs ys) (to_z w64) ∙ length-choice t us vs xs ys lu lv lx ly

pub selected_at : (t : ℕ → ℕ → Bool) (us vs xs ys : List ℕ) (k : ℕ) → length us ≡ 8 → length vs ≡ 8 → length xs ≡ 8 → length ys ≡ 8 → k < 8 →
    number_at (selected t us vs xs ys) k ≡ to_z w64 (cond (t (get_or us k 0) (get_or vs k 0)) (get_or xs k 0) (get_or ys k 0))
selected_at t us vs xs ys k lu lv lx ly lt =
    let all = length-choice t us vs xs ys lu lv lx ly in
    let pairs = length-zip2 t us vs (lu ∙ sym lv) in
    get_or-map (to_z w64) (sel_l (map (top 63) (zip2 (flag t) us vs)) xs ys) k 0 ABSENT (omega arith)
    ∙ ap (to_z w64)
    (ap (λ ms. get_or (sel_l ms xs ys) k 0) (tops_compared w64 t us vs)
    ∙ get_or-sel_l (zip2 t us vs) xs ys k 0 (omega arith) (omega arith) (omega arith)
    ∙ ap (λ b. cond b (get_or xs k 0) (get_or ys k 0)) (get_or-zip2 t us vs k 0 0 false (omega arith) (omega arith)))

-- whether a number is below another one, by their bits
abbrev pub is_below : ℕ → ℕ → Bool
is_below a b = lt_z (to_z w64 a) (to_z w64 b)

-- differences of the bits, which wrap
abbrev pub differences : List ℕ → List ℕ → List ℕ
differences us vs = zip2 (λ a b. (a + (2 ^ 64 - b)) % 2 ^ 64) us vs

abbrev pub zeros : List ℕ
zeros = replicate 8 0

pub length-differences : (us vs : List ℕ) → length us ≡ 8 → length vs ≡ 8 → length (differences us vs) ≡ 8
length-differences us vs lu lv = length-zip2 (λ a b. (a + (2 ^ 64 - b)) % 2 ^ 64) us vs (lu ∙ sym lv) ∙ lu

difference_at : (xs ys : List ℤ) → IsVector xs → IsVector ys → ((k : ℕ) → k < 8 → SFits w64 (number_at xs k -ℤ number_at ys k)) →
    (k : ℕ) → k < 8 → to_z w64 (get_or (differences (bits_of xs) (bits_of ys)) k 0) ≡ number_at xs k -ℤ number_at ys k
difference_at xs ys p q near k lt =
    let us = bits_of xs in
    let vs = bits_of ys in
    let lu : length us ≡ 8 = length-bits_of xs ∙ p.count in
    let lv : length vs ≡ 8 = length-bits_of ys ∙ q.count in
    let countx = p.count in
    let county = q.count in
    let bx = bits_at xs k (omega arith) in
    let by = bits_at ys k (omega arith) in
    ap (to_z w64) (get_or-zip2 (λ a b. (a + (2 ^ 64 - b)) % 2 ^ 64) us vs k 0 0 0 (omega arith) (omega arith) ∙ ap (λ v. (v + (2 ^ 64 - get_or vs k 0)) % 2 ^ 64) bx ∙ ap (λ v. (of_z w64 (number_at xs k) + (2 ^ 64 - v)) % 2 ^ 64) by)
    ∙ wrapping_sub_is w64 (number_at xs k) (number_at ys k) (p.fits k lt) (q.fits k lt)
    ∙ int_wrap_fits w64 (number_at xs k -ℤ number_at ys k) (near k lt)

-- the sign of a difference
sign_at : (xs ys : List ℤ) → IsVector xs → IsVector ys → ((k : ℕ) → k < 8 → SFits w64 (number_at xs k -ℤ number_at ys k)) →
    (k : ℕ) → k < 8 → is_below (get_or (differences (bits_of xs) (bits_of ys)) k 0) (get_or zeros k 0) ≡ lt_z (number_at xs k -ℤ number_at ys k) (pos 0)
sign_at xs ys p q near k lt =
    ap (λ z. lt_z z (to_z w64 (get_or zeros k 0))) (difference_at xs ys p q near k lt)
    ∙ ap (λ v. lt_z (number_at xs k -ℤ number_at ys k) (to_z w64 v)) (get_or-replicate 8 k 0 0 lt)

choose : (x y : ℤ) (t : Bool) → SFits w64 x → SFits w64 y → to_z w64 (cond t (of_z w64 x) (of_z w64 y)) ≡ cond t x y
choose x y true p q = to_z-of_z w64 x p
choose x y false p q = to_z-of_z w64 y q

max_by : (x y : ℤ) (t : Bool) → lt_z (x -ℤ y) (pos 0) ≡ t → cond t y x ≡ int_max x y
max_by x y true e = omega (arith, ints, clamps)
max_by x y false e = omega (arith, ints, clamps)

min_by : (x y : ℤ) (t : Bool) → lt_z (x -ℤ y) (pos 0) ≡ t → cond t x y ≡ int_min x y
min_by x y true e = omega (arith, ints, clamps)
min_by x y false e = omega (arith, ints, clamps)

pub greater_at : (xs ys : List ℤ) → IsVector xs → IsVector ys → ((k : ℕ) → k < 8 → SFits w64 (number_at xs k -ℤ number_at ys k)) →
    HasNumbers (selected is_below (differences (bits_of xs) (bits_of ys)) zeros (bits_of ys) (bits_of xs)) (λ k. int_max (number_at xs k) (number_at ys k))
greater_at xs ys p q near k lt =
    let x = number_at xs k in
    let y = number_at ys k in
    let lx = length-bits_of xs ∙ p.count in
    let ly = length-bits_of ys ∙ q.count in
    let countx = p.count in
    let county = q.count in
    let bx = bits_at xs k (omega arith) in
    let by = bits_at ys k (omega arith) in
    selected_at is_below (differences (bits_of xs) (bits_of ys)) zeros (bits_of ys) (bits_of xs) k (length-differences (bits_of xs) (bits_of ys) lx ly) refl ly lx lt
    ∙ ap (λ t. to_z w64 (cond t (get_or (bits_of ys) k 0) (get_or (bits_of xs) k 0))) (sign_at xs ys p q near k lt)
    ∙ rw (bx, by) (choose y x (lt_z (x -ℤ y) (pos 0)) (q.fits k lt) (p.fits k lt))
    ∙ max_by x y (lt_z (x -ℤ y) (pos 0)) refl

pub lesser_at : (xs ys : List ℤ) → IsVector xs → IsVector ys → ((k : ℕ) → k < 8 → SFits w64 (number_at xs k -ℤ number_at ys k)) →
    HasNumbers (selected is_below (differences (bits_of xs) (bits_of ys)) zeros (bits_of xs) (bits_of ys)) (λ k. int_min (number_at xs k) (number_at ys k))
lesser_at xs ys p q near k lt =
    let x = number_at xs k in
    let y = number_at ys k in
    let lx = length-bits_of xs ∙ p.count in
    let ly = length-bits_of ys ∙ q.count in
    let countx = p.count in
    let county = q.count in
    let bx = bits_at xs k (omega arith) in
    let by = bits_at ys k (omega arith) in
    selected_at is_below (differences (bits_of xs) (bits_of ys)) zeros (bits_of xs) (bits_of ys) k (length-differences (bits_of xs) (bits_of ys) lx ly) refl lx ly lt
    ∙ ap (λ t. to_z w64 (cond t (get_or (bits_of xs) k 0) (get_or (bits_of ys) k 0))) (sign_at xs ys p q near k lt)
    ∙ rw (bx, by) (choose x y (lt_z (x -ℤ y) (pos 0)) (p.fits k lt) (q.fits k lt))
    ∙ min_by x y (lt_z (x -ℤ y) (pos 0)) refl

pub SFits-int_max : (x y : ℤ) → SFits w64 x → SFits w64 y → SFits w64 (int_max x y)
SFits-int_max x y p q = omega (arith, ints, clamps)

pub SFits-int_min : (x y : ℤ) → SFits w64 x → SFits w64 y → SFits w64 (int_min x y)
SFits-int_min x y p q = omega (arith, ints, clamps)

-- sums of the bits, which wrap
abbrev pub summed : List ℕ → List ℕ → List ℤ
summed us vs = map (to_z w64) (zip2 (λ a b. (a + b) % 2 ^ 64) us vs)

pub length-summed : (us vs : List ℕ) → length us ≡ 8 → length vs ≡ 8 → length (summed us vs) ≡ 8
length-summed us vs lu lv = length-map (zip2 (λ a b. (a + b) % 2 ^ 64) us vs) (to_z w64) ∙ length-zip2 (λ a b. (a + b) % 2 ^ 64) us vs (lu ∙ sym lv) ∙ lu

pub sum_at : (xs : List ℤ) (add : ℤ) → IsVector xs → SFits w64 add → ((k : ℕ) → k < 8 → SFits w64 (number_at xs k +ℤ add)) →
    HasNumbers (summed (bits_of xs) (replicate 8 (of_z w64 add))) (λ k. number_at xs k +ℤ add)
sum_at xs add p q fits k lt =
    let us = bits_of xs in
    let vs = replicate 8 (of_z w64 add) in
    let lu : length us ≡ 8 = length-bits_of xs ∙ p.count in
    let lv : length vs ≡ 8 = length-replicate 8 (of_z w64 add) in
    let pairs = length-zip2 (λ a b. (a + b) % 2 ^ 64) us vs (lu ∙ sym lv) in
    let count = p.count in
    let bits = bits_at xs k (omega arith) in
    let same = get_or-replicate 8 k (of_z w64 add) 0 lt in
    get_or-map (to_z w64) (zip2 (λ a b. (a + b) % 2 ^ 64) us vs) k 0 ABSENT (omega arith)
    ∙ ap (to_z w64) (get_or-zip2 (λ a b. (a + b) % 2 ^ 64) us vs k 0 0 0 (omega arith) (omega arith) ∙ ap (λ v. (v + get_or vs k 0) % 2 ^ 64) bits ∙ ap (λ v. (of_z w64 (number_at xs k) + v) % 2 ^ 64) same)
    ∙ wrapping_add_is w64 (number_at xs k) add (p.fits k lt) q
    ∙ int_wrap_fits w64 (number_at xs k +ℤ add) (fits k lt)

same_bits : (x y : ℤ) → SFits w64 x → SFits w64 y → of_z w64 x ≡ of_z w64 y → x ≡ y
same_bits x y p q h = sym (to_z-of_z w64 x p) ∙ ap (to_z w64) h ∙ to_z-of_z w64 y q

equal_by_bits : (x y : ℤ) → SFits w64 x → SFits w64 y → eqb (of_z w64 x) (of_z w64 y) ≡ int_eq x y
equal_by_bits x y p q =
    let bits = Decides-eqb (of_z w64 x) (of_z w64 y) in
    same_from_decides (eqb (of_z w64 x) (of_z w64 y)) (int_eq x y) (λ h. same_bits x y p q (bits.0 h), λ e. bits.1 (ap (of_z w64) e)) (Decides-int_eq x y)

pub SFits-ABSENT : SFits w64 ABSENT
SFits-ABSENT = record { sfits = lit< tt }

pub where_absent_is : (xs as_absent as_present : List ℤ) → IsVector xs → IsVector as_absent → IsVector as_present →
    HasNumbers (selected eqb (bits_of xs) (replicate 8 (of_z w64 ABSENT)) (bits_of as_absent) (bits_of as_present)) (where_absent_at xs as_absent as_present)
where_absent_is xs ys zs p q r k lt =
    let x = number_at xs k in
    let lx = length-bits_of xs ∙ p.count in
    let ly = length-bits_of ys ∙ q.count in
    let lz = length-bits_of zs ∙ r.count in
    let count_x = p.count in
    let count_y = q.count in
    let count_z = r.count in
    let bx = bits_at xs k (omega arith) in
    let by = bits_at ys k (omega arith) in
    let bz = bits_at zs k (omega arith) in
    let same = get_or-replicate 8 k (of_z w64 ABSENT) 0 lt in
    selected_at eqb (bits_of xs) (replicate 8 (of_z w64 ABSENT)) (bits_of ys) (bits_of zs) k lx (length-replicate 8 (of_z w64 ABSENT)) ly lz lt
    ∙ rw (bx, same, by, bz, equal_by_bits x ABSENT (p.fits k lt) SFits-ABSENT) (choose (number_at ys k) (number_at zs k) (int_eq x ABSENT) (q.fits k lt) (r.fits k lt))

SFits-cond : (t : Bool) (x y : ℤ) → SFits w64 x → SFits w64 y → SFits w64 (cond t x y)
SFits-cond true x y p q = p
SFits-cond false x y p q = q

pub SFits-where_absent_at : (xs ys zs : List ℤ) (k : ℕ) → k < 8 → IsVector ys → IsVector zs → SFits w64 (where_absent_at xs ys zs k)
SFits-where_absent_at xs ys zs k lt q r = SFits-cond (int_eq (number_at xs k) ABSENT) (number_at ys k) (number_at zs k) (q.fits k lt) (r.fits k lt)
