-- Sizes of what links ask for, in 64 and in 128 bits.
use Rattle.std.proofs.Common.{◌≡◌, ℕ, zero, suc, ℤ, pos, negsuc, ◌*◌, ◌^◌, ◌+ℤ◌, ◌-ℤ◌, ◌*ℤ◌, ◌<◌, ◌≤◌, refl, ⊎_elim, ◌⊎◌, inl, inr, arith, SFits, to_z, of_z, lit<}
use Rattle.std.proofs.lemmas.Int.{ints, to_z-of_z, fits_signed_from_abs}
use Rattle.std.specs.Int.{w64, w128}
use Rattle.mintc_timing.proofs.SharedProducts.{add-times}
use Rattle.mintc_fraction.specs.Ratio.{over}
use Rattle.mintc_ratio.specs.LinksAt.{IsTestable}
use Rattle.mintc_graph_walks.specs.Bounds.{IsWithin}
use Rattle.mintc_graph_walks.proofs.SharedWithin.{abs_within, IsWithin-product}

pub fits_128 : (b : ℕ) (z : ℤ) → b < 2 ^ 127 → IsWithin b z → SFits w128 z
fits_128 b z h k = let a = abs_within b z k in fits_signed_from_abs w128 z (omega arith)

pub fits_64 : (b : ℕ) (z : ℤ) → b < 2 ^ 63 → IsWithin b z → SFits w64 z
fits_64 b z h k = let a = abs_within b z k in fits_signed_from_abs w64 z (omega arith)

-- one cycle off, or none
pub none_off : (x num : ℤ) (c : ℕ) → c ≡ 0 → x ≡ x -ℤ (pos c *ℤ num)
none_off x (pos n) c e = rw e (omega (arith, ints))
none_off x (negsuc n) c e = rw e (omega (arith, ints))

pub one_off : (x num : ℤ) (c : ℕ) → c ≡ 1 → x -ℤ num ≡ x -ℤ (pos c *ℤ num)
one_off x (pos n) c e = rw e (omega (arith, ints))
one_off x (negsuc n) c e = rw e (omega (arith, ints))

-- what the code's product is
module _ (d f num den : ℤ) (from : f ≡ d) (delay : IsWithin 4000000000 d) (time : IsTestable (over num den)) where
  pub den_within : IsWithin (10 ^ 9) den
  den_within = let a = time.some in let b = time.den in (omega (arith, ints), omega (arith, ints))

  pub num_within : IsWithin (10 ^ 23) num
  num_within = let a = time.low in let b = time.num in (omega (arith, ints), omega (arith, ints))

  pub product_within : IsWithin (4 * 10 ^ 18) (d *ℤ den)
  product_within = IsWithin-product 4000000000 (10 ^ 9) d den delay den_within

  pub product_is : to_z w128 (of_z w128 (to_z w128 (of_z w128 f) *ℤ to_z w128 (of_z w128 den))) ≡ d *ℤ den
  product_is =
      rw (from, to_z-of_z w128 d (fits_128 4000000000 d (lit< tt) delay), to_z-of_z w128 den (fits_128 (10 ^ 9) den (lit< tt) den_within))
      (to_z-of_z w128 (d *ℤ den) (fits_128 (4 * 10 ^ 18) (d *ℤ den) (lit< tt) product_within))

  pub product_fits : SFits w128 (to_z w128 (of_z w128 f) *ℤ to_z w128 (of_z w128 den))
  product_fits =
      rw (from, to_z-of_z w128 d (fits_128 4000000000 d (lit< tt) delay), to_z-of_z w128 den (fits_128 (10 ^ 9) den (lit< tt) den_within))
      (fits_128 (4 * 10 ^ 18) (d *ℤ den) (lit< tt) product_within)

  rest_within : IsWithin (2 ^ 79) ((d *ℤ den) -ℤ num)
  rest_within = let p = product_within in let n = num_within in let p0 = p.0 in let p1 = p.1 in let n0 = n.0 in let n1 = n.1 in (omega (arith, ints), omega (arith, ints))

  pub rest_fits : SFits w128 (to_z w128 (of_z w128 (to_z w128 (of_z w128 f) *ℤ to_z w128 (of_z w128 den))) -ℤ to_z w128 (of_z w128 num))
  rest_fits = rw (product_is, to_z-of_z w128 num (fits_128 (10 ^ 23) num (lit< tt) num_within)) (fits_128 (2 ^ 79) ((d *ℤ den) -ℤ num) (lit< tt) rest_within)

  pub rest_is : to_z w128 (of_z w128 (to_z w128 (of_z w128 (to_z w128 (of_z w128 f) *ℤ to_z w128 (of_z w128 den))) -ℤ to_z w128 (of_z w128 num))) ≡ (d *ℤ den) -ℤ num
  rest_is = rw (product_is, to_z-of_z w128 num (fits_128 (10 ^ 23) num (lit< tt) num_within)) (to_z-of_z w128 ((d *ℤ den) -ℤ num) (fits_128 (2 ^ 79) ((d *ℤ den) -ℤ num) (lit< tt) rest_within))

  pub product_small : IsWithin (2 ^ 80) (d *ℤ den)
  product_small = let p = product_within in let p0 = p.0 in let p1 = p.1 in (omega (arith, ints), omega (arith, ints))

  pub rest_small : IsWithin (2 ^ 80) ((d *ℤ den) -ℤ num)
  rest_small = let p = rest_within in let p0 = p.0 in let p1 = p.1 in (omega (arith, ints), omega (arith, ints))

pub weight_step : (d s den num c t : ℤ) → ((d *ℤ den) -ℤ (c *ℤ num)) +ℤ ((s *ℤ den) -ℤ (t *ℤ num)) ≡ ((d +ℤ s) *ℤ den) -ℤ ((c +ℤ t) *ℤ num)
weight_step d s den num c t = let a = add-times d s den in let b = add-times c t num in omega (arith, ints)

cases_small : (c : ℕ) → c ≤ 1 → (c ≡ 0) ⊎ (c ≡ 1)
cases_small zero h = inl refl
cases_small (suc zero) h = inr refl
cases_small (suc (suc c)) h = absurd (omega arith)

pub weight_small : (d num den : ℤ) (c : ℕ) → c ≤ 1 → IsWithin 4000000000 d → IsTestable (over num den) → IsWithin (2 ^ 80) ((d *ℤ den) -ℤ (pos c *ℤ num))
weight_small d num den c few delay time =
    ⊎_elim
    (λ e. rw (← none_off (d *ℤ den) num c e) (product_small d d num den refl delay time))
    (λ e. rw (← one_off (d *ℤ den) num c e) (rest_small d d num den refl delay time))
    (cases_small c few)
