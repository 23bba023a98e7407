-- Times as they are read from 128 bits.
use Rattle.std.proofs.Common.{◌≡◌, ℤ, pos, negsuc, ◌≤ℤ◌, ◌+ℤ◌, ◌-ℤ◌, arith, refl, to_z, of_z, FitsSigned}
use Rattle.std.specs.Int.{w128}
use Rattle.std.proofs.lemmas.Int.{ints, to_z-of_z}
use Rattle.mintc_timing.specs.Limits.{IsModest, IsNumerator}
use Rattle.mintcx_judgements.specs.Shown.{IsTerm, IsLeaving, IsComing, IsLong}

abbrev pub wide : ℤ → ℤ
wide x = to_z w128 (of_z w128 x)

pub read_wide : (x : ℤ) → IsLong x → wide x ≡ x
read_wide x h = to_z-of_z w128 x (omega (arith, ints))

pub read_cycle : (x : ℤ) → IsNumerator x → wide x ≡ x
read_cycle x h = read_wide x (omega (arith, ints), omega (arith, ints))

-- when data leaves
pub left_at : (a b : ℤ) → IsNumerator a → IsTerm b → wide (wide a +ℤ wide b) ≡ a +ℤ b
left_at a b ha hb =
    rw (read_wide a (omega (arith, ints), omega (arith, ints)), read_wide b (omega (arith, ints), omega (arith, ints)))
    (read_wide (a +ℤ b) (omega (arith, ints), omega (arith, ints)))

-- when it comes
module _ (a b c : ℤ) (leaves : IsLeaving a) (travels : IsModest b) (turns : IsNumerator c) where
  arrives : wide (wide a +ℤ wide b) ≡ a +ℤ b
  arrives =
      rw (read_wide a (omega (arith, ints), omega (arith, ints)), read_wide b (omega (arith, ints), omega (arith, ints)))
      (read_wide (a +ℤ b) (omega (arith, ints), omega (arith, ints)))

  turned : wide (wide a +ℤ wide b) -ℤ wide c ≡ a +ℤ b -ℤ c
  turned = rw (arrives, read_wide c (omega (arith, ints), omega (arith, ints))) refl

  pub comes_fits : FitsSigned w128 (wide (wide a +ℤ wide b) -ℤ wide c)
  comes_fits = rw turned (omega (arith, ints))

  pub comes_at : wide (wide (wide a +ℤ wide b) -ℤ wide c) ≡ a +ℤ b -ℤ c
  comes_at = rw turned (read_wide (a +ℤ b -ℤ c) (omega (arith, ints), omega (arith, ints)))

  pub comes_in_range : IsComing (wide (wide (wide a +ℤ wide b) -ℤ wide c))
  comes_in_range = rw comes_at (omega (arith, ints), omega (arith, ints))

-- sums and differences of two times that come
module _ (a b : ℤ) (first : IsComing a) (second : IsComing b) where
  pub sum_at : wide (wide a +ℤ wide b) ≡ a +ℤ b
  sum_at =
      rw (read_wide a (omega (arith, ints), omega (arith, ints)), read_wide b (omega (arith, ints), omega (arith, ints)))
      (read_wide (a +ℤ b) (omega (arith, ints), omega (arith, ints)))

  pub less_at : wide (wide a -ℤ wide b) ≡ a -ℤ b
  less_at =
      rw (read_wide a (omega (arith, ints), omega (arith, ints)), read_wide b (omega (arith, ints), omega (arith, ints)))
      (read_wide (a -ℤ b) (omega (arith, ints), omega (arith, ints)))
