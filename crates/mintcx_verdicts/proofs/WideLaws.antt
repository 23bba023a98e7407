-- Times as they are read from 128 bits.
use Rattle.std.proofs.Common.{◌≡◌, ℤ, ◌+ℤ◌, ◌-ℤ◌, arith, refl, to_z, of_z}
use Rattle.std.specs.Int.{w128}
use Rattle.std.proofs.lemmas.Int.{ints, to_z-of_z}
use Rattle.mintc_timing.specs.Limits.{IsModest, IsNumerator}
use Rattle.mintcx_judgements.specs.Shown.{IsLong}
use Rattle.mintcx_verdicts.specs.Arrivals.{IsLate}

abbrev pub wide : ℤ → ℤ
wide x = to_z w128 (of_z w128 x)

pub read_wide : (x : ℤ) → IsLong x → wide x ≡ x
read_wide x h = to_z-of_z w128 x (omega (arith, ints))

pub read_late : (x : ℤ) → IsLate x → wide x ≡ x
read_late x h = read_wide x (omega (arith, ints), omega (arith, ints))

pub read_modest : (x : ℤ) → IsModest x → wide x ≡ x
read_modest x h = read_wide x (omega (arith, ints), omega (arith, ints))

pub long_modest : (x : ℤ) → IsModest x → IsLong (wide x)
long_modest x h = rw (read_modest x h) (omega (arith, ints), omega (arith, ints))

-- when data leaves a latch, its setup, and the width of its phase
module _ (a b c : ℤ) (leaves : IsNumerator a) (setup : IsModest b) (width : IsNumerator c) where
  sum_is : wide (wide a +ℤ wide b) ≡ a +ℤ b
  sum_is =
      rw (read_wide a (omega (arith, ints), omega (arith, ints)), read_modest b setup)
      (read_wide (a +ℤ b) (omega (arith, ints), omega (arith, ints)))

  less_is : wide (wide a +ℤ wide b) -ℤ wide c ≡ a +ℤ b -ℤ c
  less_is = rw (sum_is, read_wide c (omega (arith, ints), omega (arith, ints))) refl

  pub amount_is : wide (wide (wide a +ℤ wide b) -ℤ wide c) ≡ a +ℤ b -ℤ c
  amount_is = rw less_is (read_wide (a +ℤ b -ℤ c) (omega (arith, ints), omega (arith, ints)))

  pub amount_late : IsLate (wide (wide (wide a +ℤ wide b) -ℤ wide c))
  amount_late = rw amount_is (omega (arith, ints), omega (arith, ints))
