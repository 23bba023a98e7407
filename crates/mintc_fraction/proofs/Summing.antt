-- Sums of values, and the sizes of sums and products.
use Rattle.std.proofs.Common.{◌≡◌, ℕ, ◌+◌, ◌*◌, ◌≤◌, ℤ, pos, ◌≤ℤ◌, ◌+ℤ◌, ◌*ℤ◌, sym, ap, ◌∙◌, arith}
use Rattle.std.specs.Prelude.{unsigned_abs}
use Rattle.std.proofs.lemmas.Int.{ints, unsigned_abs-mul}
use Rattle.std.proofs.lemmas.Nat.{mul-le}
use Rattle.std.proofs.Math.IntN.{*ℤ_comm, +ℤ_comm, +ℤ_assoc}
use Rattle.mintc_fraction.specs.Ratio.{Ratio, IsFraction, IsEqual, sum_of, product_of, IsWithin}
use Rattle.mintc_fraction.specs.Laws.{IsSum}
use Rattle.mintc_fraction.proofs.SharedProducts.{times-assoc, add-times, swap-times, medial-times, times-positive}
use Rattle.mintc_fraction.proofs.Comparing.{IsEqual-trans}

-- the size of a product
pub size_of_product : (x y : ℤ) (m n : ℕ) → unsigned_abs x ≤ m → unsigned_abs y ≤ n → unsigned_abs (x *ℤ y) ≤ m * n
size_of_product x y m n h k = omega (arith, unsigned_abs-mul x y, mul-le _ _ m n h k)

pub size_of_den : (y : ℤ) (n : ℕ) → pos 1 ≤ℤ y → y ≤ℤ pos n → unsigned_abs y ≤ n
size_of_den y n p h = omega (arith, ints)

pub sum-within : (a b : Ratio) → IsFraction a → IsFraction b → (n d m e : ℕ) → IsWithin n d a → IsWithin m e b → IsWithin (n * e + m * d) (d * e) (sum_of a b)
sum-within a b pa pb n d m e h k =
    let first = size_of_product a.num b.den n e h.num (size_of_den b.den e pb k.den) in
    let second = size_of_product b.num a.den m d k.num (size_of_den a.den d pa h.den) in
    let both = size_of_product a.den b.den d e (size_of_den a.den d pa h.den) (size_of_den b.den e pb k.den) in
    record { num = omega (arith, ints); den = omega (arith, ints) }

pub product-within : (a : Ratio) (by : ℤ) (n d k : ℕ) → IsWithin n d a → unsigned_abs by ≤ k → IsWithin (n * k) d (product_of a by)
product-within a by n d k h small = record { num = size_of_product a.num by n k h.num small; den = h.den }

-- equal values have equal sums with a third
sum_of-equal : (x y c : Ratio) → IsEqual x y → IsEqual (sum_of x c) (sum_of y c)
sum_of-equal x y c e =
    let left = add-times (x.num *ℤ c.den) (c.num *ℤ x.den) (y.den *ℤ c.den) in
    let right = add-times (y.num *ℤ c.den) (c.num *ℤ y.den) (x.den *ℤ c.den) in
    let first = medial-times x.num c.den y.den c.den ∙ ap (λ v. v *ℤ (c.den *ℤ c.den)) e ∙ sym (medial-times y.num c.den x.den c.den) in
    let second = medial-times c.num x.den y.den c.den in
    left ∙ ap (λ v. v +ℤ (c.num *ℤ x.den) *ℤ (y.den *ℤ c.den)) first ∙ ap (λ v. (y.num *ℤ c.den) *ℤ (x.den *ℤ c.den) +ℤ v) second ∙ sym right

-- the values of the parts decide the value of a sum
sum_of-comm : (a b : Ratio) → IsEqual (sum_of a b) (sum_of b a)
sum_of-comm a b =
    ap (λ v. v *ℤ (b.den *ℤ a.den)) (+ℤ_comm (a.num *ℤ b.den) (b.num *ℤ a.den)) ∙ ap (λ v. (b.num *ℤ a.den +ℤ a.num *ℤ b.den) *ℤ v) (*ℤ_comm b.den a.den)

sum_of-positive : (a b : Ratio) → IsFraction a → IsFraction b → IsFraction (sum_of a b)
sum_of-positive a b pa pb = times-positive a.den b.den pa pb

pub sums_commute : (a b c d : Ratio) → IsFraction a → IsFraction b → IsSum a b c → IsSum b a d → IsEqual c d
sums_commute a b c d pa pb h k =
    IsEqual-trans c (sum_of a b) d (sum_of-positive a b pa pb) h
    (IsEqual-trans (sum_of a b) (sum_of b a) d (sum_of-positive b a pb pa) (sum_of-comm a b) (sym k))

num-assoc : (a b c : Ratio) → (sum_of (sum_of a b) c).num ≡ (sum_of a (sum_of b c)).num
num-assoc a b c =
    let split = add-times (a.num *ℤ b.den) (b.num *ℤ a.den) c.den in
    let join = add-times (b.num *ℤ c.den) (c.num *ℤ b.den) a.den in
    let first = times-assoc a.num b.den c.den in
    let second = swap-times b.num a.den c.den in
    let third = sym (times-assoc c.num a.den b.den) ∙ swap-times c.num a.den b.den in
    ap (λ v. v +ℤ c.num *ℤ (a.den *ℤ b.den)) split
    ∙ +ℤ_assoc ((a.num *ℤ b.den) *ℤ c.den) ((b.num *ℤ a.den) *ℤ c.den) (c.num *ℤ (a.den *ℤ b.den))
    ∙ ap (λ v. v +ℤ ((b.num *ℤ a.den) *ℤ c.den +ℤ c.num *ℤ (a.den *ℤ b.den))) first
    ∙ ap (λ v. a.num *ℤ (b.den *ℤ c.den) +ℤ (v +ℤ c.num *ℤ (a.den *ℤ b.den))) second
    ∙ ap (λ v. a.num *ℤ (b.den *ℤ c.den) +ℤ ((b.num *ℤ c.den) *ℤ a.den +ℤ v)) third
    ∙ ap (λ v. a.num *ℤ (b.den *ℤ c.den) +ℤ v) (sym join)

sum_of-assoc : (a b c : Ratio) → IsEqual (sum_of (sum_of a b) c) (sum_of a (sum_of b c))
sum_of-assoc a b c =
    ap (λ v. v *ℤ (a.den *ℤ (b.den *ℤ c.den))) (num-assoc a b c)
    ∙ ap (λ v. (sum_of a (sum_of b c)).num *ℤ v) (sym (times-assoc a.den b.den c.den))

pub sums_associate : (a b c ab bc left right : Ratio) → IsFraction a → IsFraction b → IsFraction c → IsFraction ab → IsFraction bc →
    IsSum a b ab → IsSum ab c left → IsSum b c bc → IsSum a bc right → IsEqual left right
sums_associate a b c ab bc left right pa pb pc pab pbc h first k second =
    let whole = sum_of a b in
    let rest = sum_of b c in
    let pw = sum_of-positive a b pa pb in
    let pr = sum_of-positive b c pb pc in
    let one : IsEqual left (sum_of whole c) = IsEqual-trans left (sum_of ab c) (sum_of whole c) (sum_of-positive ab c pab pc) first (sum_of-equal ab whole c h) in
    let turned : IsEqual (sum_of a bc) (sum_of a rest) = IsEqual-trans (sum_of a bc) (sum_of bc a) (sum_of a rest) (sum_of-positive bc a pbc pa) (sum_of-comm a bc)
    (IsEqual-trans (sum_of bc a) (sum_of rest a) (sum_of a rest) (sum_of-positive rest a pr pa) (sum_of-equal bc rest a k) (sum_of-comm rest a)) in
    let two : IsEqual right (sum_of a rest) = IsEqual-trans right (sum_of a bc) (sum_of a rest) (sum_of-positive a bc pa pbc) second turned in
    IsEqual-trans left (sum_of whole c) right (sum_of-positive whole c pw pc) one
    (IsEqual-trans (sum_of whole c) (sum_of a rest) right (sum_of-positive a rest pa pr) (sum_of-assoc a b c) (sym two))
