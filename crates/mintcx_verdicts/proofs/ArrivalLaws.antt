-- Arrivals as they are read from 64 bits.
use Rattle.std.proofs.Common.{◌≡◌, ℤ, ◌+ℤ◌, arith, refl, w64, to_z, of_z, FitsSigned}
use Rattle.std.proofs.lemmas.Int.{ints}
use Rattle.mintc_timing.specs.Limits.{IsDelay, IsModest, IsTime}
use Rattle.mintc_timing.proofs.SharedFitting.{read_time}
use Rattle.mintc_certificate.specs.Ranges.{IsDeparture}

abbrev pub read : ℤ → ℤ
read x = to_z w64 (of_z w64 x)

-- how long it takes to leave an element and to go on
pub travels_for : (a b : ℤ) → IsDelay a → IsDelay b → read (read a +ℤ read b) ≡ a +ℤ b
travels_for a b leaves goes =
    rw (read_time a (omega (arith, ints), omega (arith, ints)), read_time b (omega (arith, ints), omega (arith, ints)))
    (read_time (a +ℤ b) (omega (arith, ints), omega (arith, ints)))

-- when data leaves, and how long it takes
pub travel_fits : (a b : ℤ) → IsDeparture a → IsModest b → FitsSigned w64 (read a +ℤ read b)
travel_fits a b leaves travels =
    rw (read_time a (omega (arith, ints), omega (arith, ints)), read_time b (omega (arith, ints), omega (arith, ints))) (omega (arith, ints))

-- when data leaves, how long it takes, and what turns it
module _ (a b c : ℤ) (leaves : IsDeparture a) (travels : IsModest b) (turns : IsModest c) where
  a_is : read a ≡ a
  a_is = read_time a (omega (arith, ints), omega (arith, ints))

  b_is : read b ≡ b
  b_is = read_time b (omega (arith, ints), omega (arith, ints))

  c_is : read c ≡ c
  c_is = read_time c (omega (arith, ints), omega (arith, ints))

  sum_is : read (read a +ℤ read b) ≡ a +ℤ b
  sum_is = rw (a_is, b_is) (read_time (a +ℤ b) (omega (arith, ints), omega (arith, ints)))

  both_are : read (read a +ℤ read b) +ℤ read c ≡ a +ℤ b +ℤ c
  both_are = rw (sum_is, c_is) refl

  pub turn_fits : FitsSigned w64 (read (read a +ℤ read b) +ℤ read c)
  turn_fits = rw both_are (omega (arith, ints))

  pub arrives_at : read (read (read a +ℤ read b) +ℤ read c) ≡ a +ℤ b +ℤ c
  arrives_at = rw both_are (read_time (a +ℤ b +ℤ c) (omega (arith, ints), omega (arith, ints)))

  pub arrives_in_time : IsTime (read (read (read a +ℤ read b) +ℤ read c))
  arrives_in_time = rw arrives_at (omega (arith, ints), omega (arith, ints))
