-- Lanes beside each other.
use Rattle.std.proofs.Common.{◌≡◌, ℕ, ◌+◌, ◌*◌, ◌^◌, ◌<◌, ◌≤◌, max, ℤ, pos, ◌+ℤ◌, ◌-ℤ◌, ◌<ℤ◌, ◌≤ℤ◌, Bool, true, false, cond, ◌⊎◌, inl, inr, ⊎_elim, Option, Some, None, List, length, refl, sym, ap, ◌∙◌, subst, arith, w64, SFits}
use Rattle.std.specs.Prelude.{unsigned_abs, IfSome, IsSome}
use Rattle.std.specs.Int.{int_max, int_min}
use Rattle.std.specs.Ordering.{int_eq}
use Rattle.std.proofs.lemmas.Bool.{false≢true}
use Rattle.std.proofs.lemmas.Bool.Decides.{Decides-int_eq}
use Rattle.std.proofs.lemmas.Int.{ints, clamps, by_lt_z}
use Rattle.mintc_lanes.specs.declared.TheConstants.{ABSENT}
use Rattle.mintc_lanes.specs.Lanes.{lane_of, lane_at, joined, AreJoined, AreWithin, AreLanes}
use Rattle.mintc_lanes.specs.Vectors.{IsVector, HasNumbers, number_at, joined_at, where_absent_at}

false_of : (b : Bool) → (b ≡ true → ⊥) → b ≡ false
false_of true n = absurd (n refl)
false_of false n = refl

-- a number above ABSENT is none
pub present : (z : ℤ) → ABSENT <ℤ z → int_eq z ABSENT ≡ false
present z above = false_of (int_eq z ABSENT) (λ e. let same = (Decides-int_eq z ABSENT).0 e in omega (arith, ints))

-- a lane's number is ABSENT or within the bound
within_by : (n : ℕ) (x : ℤ) (t : Bool) → int_eq x ABSENT ≡ t → IfSome (cond t None (Some x)) (λ v. unsigned_abs v ≤ n) → (x ≡ ABSENT) ⊎ (unsigned_abs x ≤ n)
within_by n x true e h = inl ((Decides-int_eq x ABSENT).0 e)
within_by n x false e h = inr h

pub within_cases : (n : ℕ) (x : ℤ) → IfSome (lane_of x) (λ v. unsigned_abs v ≤ n) → (x ≡ ABSENT) ⊎ (unsigned_abs x ≤ n)
within_cases n x h = within_by n x (int_eq x ABSENT) refl h

pub lane_fits : (x : ℤ) → IfSome (lane_of x) (λ v. unsigned_abs v ≤ 2 * 10 ^ 18) → SFits w64 x
lane_fits x h = ⊎_elim (λ e. omega (arith, ints)) (λ small. omega (arith, ints)) (within_cases (2 * 10 ^ 18) x h)

pub sum_fits : (x add : ℤ) → IfSome (lane_of x) (λ v. unsigned_abs v ≤ 2 * 10 ^ 18) → unsigned_abs add ≤ 10 ^ 18 → SFits w64 (x +ℤ add)
sum_fits x add h few = ⊎_elim (λ e. omega (arith, ints)) (λ small. omega (arith, ints)) (within_cases (2 * 10 ^ 18) x h)

-- a lane's number, or the greater of two
pub record IsNear (z : ℤ) : Type 0 where
  pub low : ABSENT ≤ℤ z
  pub high : z ≤ℤ pos (2 * 10 ^ 18)

pub IsNear-lane : (x : ℤ) → IfSome (lane_of x) (λ v. unsigned_abs v ≤ 2 * 10 ^ 18) → IsNear x
IsNear-lane x h = ⊎_elim
    (λ (e : x ≡ ABSENT). record { low = omega (arith, ints); high = omega (arith, ints) })
    (λ (small : unsigned_abs x ≤ 2 * 10 ^ 18). record { low = omega (arith, ints); high = omega (arith, ints) })
    (within_cases (2 * 10 ^ 18) x h)

pub difference_fits : (x y : ℤ) → IsNear x → IsNear y → SFits w64 (x -ℤ y)
difference_fits x y p q = let a = p.low in let b = p.high in let c = q.low in let d = q.high in omega (arith, ints)

pub sum_differs : (x y s add : ℤ) → IfSome (lane_of x) (λ v. unsigned_abs v ≤ 2 * 10 ^ 18) → IfSome (lane_of y) (λ v. unsigned_abs v ≤ 2 * 10 ^ 18) →
    unsigned_abs add ≤ 10 ^ 18 → s ≡ y +ℤ add → SFits w64 (x -ℤ s)
sum_differs x y s add h g few e =
    let p = IsNear-lane x h in let q = IsNear-lane y g in
    let a = p.low in let b = p.high in let c = q.low in let d = q.high in omega (arith, ints)

-- a number that is present, of a lane within the bound
pub size_of_present : (x : ℤ) → IfSome (lane_of x) (λ v. unsigned_abs v ≤ 2 * 10 ^ 18) → int_eq x ABSENT ≡ false → unsigned_abs x ≤ 2 * 10 ^ 18
size_of_present x h e =
    ⊎_elim (λ (same : x ≡ ABSENT). absurd (false≢true (sym e ∙ (Decides-int_eq x ABSENT).1 same))) (λ small. small) (within_cases (2 * 10 ^ 18) x h)

-- the number of a joined lane, by whether each lane is absent
joined_by : (choose : ℤ → ℤ → ℤ) (x y s add : ℤ) (tx ty : Bool) → int_eq x ABSENT ≡ tx → int_eq y ABSENT ≡ ty → s ≡ y +ℤ add →
    (int_eq y ABSENT ≡ false → int_eq s ABSENT ≡ false) → (int_eq x ABSENT ≡ false → int_eq y ABSENT ≡ false → int_eq (choose x s) ABSENT ≡ false) →
    lane_of (cond ty x (cond tx s (choose x s))) ≡ joined choose (cond tx None (Some x)) (cond ty None (Some y)) add
joined_by choose x y s add true true ex ey es hs hc = ap (λ b. cond b None (Some x)) ex
joined_by choose x y s add false true ex ey es hs hc = ap (λ b. cond b None (Some x)) ex
joined_by choose x y s add true false ex ey es hs hc = ap (λ b. cond b None (Some s)) (hs ey) ∙ ap (λ v. Some v) es
joined_by choose x y s add false false ex ey es hs hc = ap (λ b. cond b None (Some (choose x s))) (hc ex ey) ∙ ap (λ v. Some (choose x v)) es

-- a choice of one of two numbers
pub record IsChoice (choose : ℤ → ℤ → ℤ) : Type 0 where
  pub one : (x y : ℤ) → (choose x y ≡ x) ⊎ (choose x y ≡ y)

max_by : (x y : ℤ) → (y <ℤ x → int_max x y ≡ x) × (x ≤ℤ y → int_max x y ≡ y)
max_by x y = (λ h. omega (arith, ints, clamps), λ h. omega (arith, ints, clamps))

min_by : (x y : ℤ) → (y <ℤ x → int_min x y ≡ y) × (x ≤ℤ y → int_min x y ≡ x)
min_by x y = (λ h. omega (arith, ints, clamps), λ h. omega (arith, ints, clamps))

pub IsChoice-int_max : IsChoice int_max
IsChoice-int_max = record { one = λ x y. by_lt_z y x (λ h. inl ((max_by x y).0 h)) (λ h. inr ((max_by x y).1 h)) }

pub IsChoice-int_min : IsChoice int_min
IsChoice-int_min = record { one = λ x y. by_lt_z y x (λ h. inr ((min_by x y).0 h)) (λ h. inl ((min_by x y).1 h)) }

pub joined_lane : (choose : ℤ → ℤ → ℤ) (x y s add : ℤ) → IsChoice choose → s ≡ y +ℤ add → unsigned_abs add ≤ 10 ^ 18 →
    IfSome (lane_of x) (λ v. unsigned_abs v ≤ 2 * 10 ^ 18) → IfSome (lane_of y) (λ v. unsigned_abs v ≤ 2 * 10 ^ 18) →
    lane_of (cond (int_eq y ABSENT) x (cond (int_eq x ABSENT) s (choose x s))) ≡ joined choose (lane_of x) (lane_of y) add
joined_lane choose x y s add choice es few hx hy =
    joined_by choose x y s add (int_eq x ABSENT) (int_eq y ABSENT) refl refl es
    (λ ey. let small = size_of_present y hy ey in present s (omega (arith, ints)))
    (λ ex ey. let small = size_of_present y hy ey in let own = size_of_present x hx ex in
    ⊎_elim (λ (e : choose x s ≡ x). present (choose x s) (omega (arith, ints))) (λ (e : choose x s ≡ s). present (choose x s) (omega (arith, ints))) (choice.one x s))

-- a lane that is present stays present
pub joined_present : (choose : ℤ → ℤ → ℤ) (lane other : Option ℤ) (add : ℤ) → IsSome lane → IsSome (joined choose lane other add)
joined_present choose None other add h = absurd (false≢true h)
joined_present choose (Some x) None add h = h
joined_present choose (Some x) (Some y) add h = h

-- and the bounds that lanes have afterwards
pub joined_within : (choose : ℤ → ℤ → ℤ) (lane other : Option ℤ) (add : ℤ) (m n b : ℕ) → IsChoice choose →
    IfSome lane (λ v. unsigned_abs v ≤ m) → IfSome other (λ v. unsigned_abs v ≤ n) → unsigned_abs add ≤ b →
    IfSome (joined choose lane other add) (λ v. unsigned_abs v ≤ max m (n + b))
joined_within choose None None add m n b choice h k few = tt
joined_within choose (Some x) None add m n b choice h k few = omega (arith, h)
joined_within choose None (Some y) add m n b choice h k few = omega (arith, ints, k)
joined_within choose (Some x) (Some y) add m n b choice h k few =
    ⊎_elim (λ (e : choose x (y +ℤ add) ≡ x). omega (arith, ints, h)) (λ (e : choose x (y +ℤ add) ≡ y +ℤ add). omega (arith, ints, k)) (choice.one x (y +ℤ add))

-- a row of lanes as a vector
pub row_vector : (row : List ℤ) → length row ≡ 8 → AreLanes row → IsVector row
row_vector row count lanes = record { count = count; fits = λ k lt. lane_fits (number_at row k) (lanes k lt) }

-- the lanes of a row whose numbers are the joined ones
pub are_joined : (choose : ℤ → ℤ → ℤ) (row other sum chosen new : List ℤ) (add : ℤ) → IsChoice choose → AreLanes row → AreLanes other → unsigned_abs add ≤ 10 ^ 18 →
    HasNumbers sum (λ k. number_at other k +ℤ add) → HasNumbers chosen (λ k. choose (number_at row k) (number_at sum k)) → HasNumbers new (joined_at row other sum chosen) →
    AreJoined choose row other add new
are_joined choose row other sum chosen new add choice lanes others few sums choices is k lt =
    let x = number_at row k in
    let y = number_at other k in
    let s = number_at sum k in
    ap lane_of (is k lt ∙ ap (λ v. cond (int_eq y ABSENT) x (cond (int_eq x ABSENT) s v)) (choices k lt))
    ∙ joined_lane choose x y s add choice (sums k lt) few (lanes k lt) (others k lt)

-- the greater of an absent lane's number and of a sum is the sum, so that the row needn't be looked at
greater_by : (x y s : ℤ) (tx : Bool) → int_eq x ABSENT ≡ tx → (int_eq y ABSENT ≡ false → ABSENT <ℤ s) →
    cond (int_eq y ABSENT) x (int_max x s) ≡ cond (int_eq y ABSENT) x (cond tx s (int_max x s))
greater_by x y s false e above = refl
greater_by x y s true e above = greater_beside (int_eq y ABSENT) refl
  where
    greater_beside : (ty : Bool) → int_eq y ABSENT ≡ ty → cond ty x (int_max x s) ≡ cond ty x s
    greater_beside true f = refl
    greater_beside false f = let more = above f in let same = (Decides-int_eq x ABSENT).0 e in (max_by x s).1 (omega (arith, ints))

pub greater_joined : (row other sum chosen new : List ℤ) (add : ℤ) → AreLanes other → unsigned_abs add ≤ 10 ^ 18 → HasNumbers sum (λ k. number_at other k +ℤ add) →
    HasNumbers chosen (λ k. int_max (number_at row k) (number_at sum k)) → HasNumbers new (where_absent_at other row chosen) → HasNumbers new (joined_at row other sum chosen)
greater_joined row other sum chosen new add others few sums choices is k lt =
    let x = number_at row k in
    let y = number_at other k in
    let s = number_at sum k in
    is k lt ∙ ap (λ v. cond (int_eq y ABSENT) x v) (choices k lt)
    ∙ greater_by x y s (int_eq x ABSENT) refl (λ ey. let small = size_of_present y (others k lt) ey in let e = sums k lt in omega (arith, ints))
    ∙ sym (ap (λ v. cond (int_eq y ABSENT) x (cond (int_eq x ABSENT) s v)) (choices k lt))

-- the number of a lane beside an absent one
plus_by : (choose : ℤ → ℤ → ℤ) (y s add : ℤ) (ty : Bool) → int_eq y ABSENT ≡ ty → s ≡ y +ℤ add → (int_eq y ABSENT ≡ false → int_eq s ABSENT ≡ false) →
    lane_of (cond ty y s) ≡ joined choose None (cond ty None (Some y)) add
plus_by choose y s add true ey es hs = ap (λ b. cond b None (Some y)) ey
plus_by choose y s add false ey es hs = ap (λ b. cond b None (Some s)) (hs ey) ∙ ap (λ v. Some v) es

pub are_plus : (other sum new : List ℤ) (add : ℤ) → AreLanes other → unsigned_abs add ≤ 10 ^ 18 → HasNumbers sum (λ k. number_at other k +ℤ add) →
    HasNumbers new (where_absent_at other other sum) → (choose : ℤ → ℤ → ℤ) (k : ℕ) → k < 8 → lane_at new k ≡ joined choose None (lane_at other k) add
are_plus other sum new add others few sums is choose k lt =
    let y = number_at other k in
    let s = number_at sum k in
    ap lane_of (is k lt)
    ∙ plus_by choose y s add (int_eq y ABSENT) refl (sums k lt) (λ ey. let small = size_of_present y (others k lt) ey in let e = sums k lt in present s (omega (arith, ints)))

pub plus_within : (other new : List ℤ) (add : ℤ) → ((choose : ℤ → ℤ → ℤ) (k : ℕ) → k < 8 → lane_at new k ≡ joined choose None (lane_at other k) add) →
    (n b : ℕ) → AreWithin n other → unsigned_abs add ≤ b → AreWithin (n + b) new
plus_within other new add is n b g few k lt =
    subst (λ (lane : Option ℤ). IfSome lane (λ v. unsigned_abs v ≤ n + b)) (sym (is int_max k lt))
    (let same : max 0 (n + b) ≡ n + b = omega arith in
    subst (λ most. IfSome (joined int_max None (lane_at other k) add) (λ v. unsigned_abs v ≤ most)) same (joined_within int_max None (lane_at other k) add 0 n b IsChoice-int_max tt (g k lt) few))

pub are_present : (choose : ℤ → ℤ → ℤ) (row other new : List ℤ) (add : ℤ) → AreJoined choose row other add new →
    (k : ℕ) → k < 8 → IsSome (lane_at row k) → IsSome (lane_at new k)
are_present choose row other new add is k lt h = subst IsSome (sym (is k lt)) (joined_present choose (lane_at row k) (lane_at other k) add h)

pub are_within : (choose : ℤ → ℤ → ℤ) (row other new : List ℤ) (add : ℤ) → IsChoice choose → AreJoined choose row other add new →
    (m n b : ℕ) → AreWithin m row → AreWithin n other → unsigned_abs add ≤ b → AreWithin (max m (n + b)) new
are_within choose row other new add choice is m n b h g few k lt =
    subst (λ (lane : Option ℤ). IfSome lane (λ v. unsigned_abs v ≤ max m (n + b))) (sym (is k lt))
    (joined_within choose (lane_at row k) (lane_at other k) add m n b choice (h k lt) (g k lt) few)
