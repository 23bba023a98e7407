-- Rounding to a grid.
use Rattle.std.proofs.Common.{◌≡◌, ℕ, ◌*◌, ◌≤◌, ℤ, pos, neg_ℤ, ◌≤ℤ◌, ◌<ℤ◌, ◌+ℤ◌, ◌*ℤ◌, sym, ap, ◌∙◌, arith}
use Rattle.std.specs.Prelude.{unsigned_abs, ◌↔◌}
use Rattle.std.proofs.lemmas.Int.{ints, by_lt_z}
use Rattle.mintc_fraction.specs.Ratio.{Ratio, IsFraction, IsFloor, IsCeiling}
use Rattle.mintc_fraction.specs.Laws.{IsOnGrid}
use Rattle.std.proofs.Math.IntN.{zero-*ℤ}
use Rattle.mintc_fraction.proofs.SharedProducts.{add-times, times-mono_positive, times-cancel_positive}
use Rattle.mintc_fraction.proofs.Dividing.{size_of_floor}
use Rattle.mintc_fraction.proofs.Summing.{size_of_product, size_of_den}

-- a whole number that is a bound and whose successor is none
below_next : (h q x y : ℤ) → pos 1 ≤ℤ y → (h *ℤ y) ≤ℤ x → x <ℤ (q *ℤ y +ℤ y) → h ≤ℤ q
below_next h q x y p low high =
    by_lt_z q h
    (λ above. let far = times-mono_positive (q +ℤ pos 1) h y (omega (arith, ints)) p in
    let e = add-times q (pos 1) y in absurd (omega (arith, ints)))
    (λ fits. fits)

pub IsFloor-from_quotient : (a : Ratio) (grid q : ℤ) → IsFraction a → (q *ℤ a.den) ≤ℤ (a.num *ℤ grid) → (a.num *ℤ grid) <ℤ (q *ℤ a.den +ℤ a.den) → IsFloor a grid q
IsFloor-from_quotient a grid q p low high =
    record { low = low; greatest = λ other h. below_next other q (a.num *ℤ grid) a.den p h high }

-- opposite numbers have opposite products
opposite : (x y z : ℤ) → x +ℤ y ≡ pos 0 → (x *ℤ z) +ℤ (y *ℤ z) ≡ pos 0
opposite x y z e = sym (add-times x y z) ∙ ap (λ v. v *ℤ z) e ∙ zero-*ℤ z

-- rounding up is rounding the opposite down, and taking the opposite
pub IsCeiling-from_quotient : (a : Ratio) (grid g q x : ℤ) → IsFraction a → g +ℤ q ≡ pos 0 → x +ℤ (a.num *ℤ grid) ≡ pos 0 →
    (q *ℤ a.den) ≤ℤ x → x <ℤ (q *ℤ a.den +ℤ a.den) → IsCeiling a grid g
IsCeiling-from_quotient a grid g q x p turned from low high =
    let up = opposite g q a.den turned in
    record {
      high = omega (arith, ints);
      least = λ other h.
          let none : neg_ℤ other +ℤ other ≡ pos 0 = omega (arith, ints) in
          let away = opposite (neg_ℤ other) other a.den none in
          let most = below_next (neg_ℤ other) q x a.den p (omega (arith, ints)) high in
          omega (arith, ints);
    }

-- the size of what rounding gives
pub size_of_rounded : (a : Ratio) (grid q x : ℤ) (n k : ℕ) → IsFraction a → pos 1 ≤ℤ grid → unsigned_abs x ≡ unsigned_abs (a.num *ℤ grid) →
    (q *ℤ a.den) ≤ℤ x → x <ℤ (q *ℤ a.den +ℤ a.den) → unsigned_abs a.num ≤ n → grid ≤ℤ pos k → unsigned_abs q ≤ n * k
size_of_rounded a grid q x n k p some same low high small few =
    let size = size_of_product a.num grid n k small (size_of_den grid k some few) in
    size_of_floor x a.den q (n * k) p low high (omega (arith, same, size))

pub floor_at_most_ceiling : (a : Ratio) (grid low high : ℤ) → IsFraction a → IsFloor a grid low → IsCeiling a grid high → low ≤ℤ high
floor_at_most_ceiling a grid low high p f c =
    let under = f.low in
    let above = c.high in
    times-cancel_positive low high a.den p (omega (arith, ints))

on_grid : (a : Ratio) (grid low high : ℤ) → IsFraction a → IsFloor a grid low → IsCeiling a grid high → low ≡ high → IsOnGrid a grid
on_grid a grid low high p f c e =
    let under = f.low in
    let above = c.high in
    let same : low *ℤ a.den ≡ high *ℤ a.den = ap (λ v. v *ℤ a.den) e in
    (low, omega (arith, ints))

from_grid : (a : Ratio) (grid low high : ℤ) → IsFraction a → IsFloor a grid low → IsCeiling a grid high → IsOnGrid a grid → low ≡ high
from_grid a grid low high p f c on =
    let k : ℤ = on.0 in
    let e : k *ℤ a.den ≡ a.num *ℤ grid = on.1 in
    let under = f.greatest k (omega (arith, ints)) in
    let above = c.least k (omega (arith, ints)) in
    let between = floor_at_most_ceiling a grid low high p f c in
    omega (arith, ints)

pub same_on_grid : (a : Ratio) (grid low high : ℤ) → IsFraction a → IsFloor a grid low → IsCeiling a grid high → (low ≡ high) ↔ IsOnGrid a grid
same_on_grid a grid low high p f c = (on_grid a grid low high p f c, from_grid a grid low high p f c)
