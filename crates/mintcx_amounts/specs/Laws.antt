-- How near the texts are to what they show.
use Rattle.std.specs.Prelude.{◌≡◌, ◌≢◌, ◌+◌, ◌*◌, ◌%◌, ◌^◌, ◌<◌, ◌≤◌, ℤ, pos, ◌*ℤ◌, ◌≤ℤ◌, neg_ℤ, true, false}
use Rattle.std.specs.Prelude.{if◌then◌else◌}
use Rattle.mintc_fraction.specs.Ratio.{Ratio, over, IsFraction, IsEqual, IsAtMost, IsBelow, sum_of}
use Rattle.mintcx_amounts.specs.declared.unit.Unit.{Unit}
use Rattle.mintcx_amounts.specs.declared.amount.Shown.{Shown}
use Rattle.mintcx_amounts.specs.Units.{femtoseconds}
use Rattle.mintcx_amounts.specs.Amounts.{shown_in}
use Rattle.mintcx_amounts.specs.Frequencies.{hertz, frequency_of, true_frequency}

-- the value that is shown: the digits over a power of ten, with their sign
abbrev pub shown_value : Shown → Ratio
shown_value s = over (if s.negative then neg_ℤ (pos s.size.digits) else pos s.size.digits) (pos (10 ^ s.size.places))

-- an amount of femtoseconds in a unit
abbrev pub in_unit : Unit → Ratio → Ratio
in_unit unit a = over a.num (a.den *ℤ pos (femtoseconds unit))

-- Two values are at most half of a thousandth apart.
abbrev pub half : Ratio
half = over (pos 1) (pos 2000)

abbrev pub IsNear : Ratio → Ratio → Type 0
IsNear a b = IsAtMost a (sum_of b half) × IsAtMost b (sum_of a half)

-- What is shown of an amount: exactly it, or, rounded, a value near it. It is rounded only where no number of
-- millionths is the amount. It has at most six places, rounded at most three, and no zero at their end.
pub record Shows (amount : Ratio) (s : Shown) : Type 0 where
  pub exact : s.rounded ≡ false → IsEqual (shown_value s) amount
  pub near : s.rounded ≡ true → IsNear (shown_value s) amount
  pub needed : s.rounded ≡ true → (k : ℤ) → IsEqual (over k (pos (10 ^ 6))) amount → ⊥
  pub places : s.size.places ≤ (if s.rounded then 3 else 6)
  pub short : 0 < s.size.places → s.size.digits % 10 ≢ 0

abbrev pub AmountsAreNear : Type 0
AmountsAreNear = (unit : Unit) (a : Ratio) → IsFraction a → Shows (in_unit unit a) (shown_in unit a)

-- The frequency that is shown is at most the true one, and the next thousandth is above it.
abbrev pub FrequenciesAreBelow : Type 0
FrequenciesAreBelow = (cycle : Ratio) → IsFraction cycle → pos 1 ≤ℤ cycle.num →
    let f = frequency_of cycle in
    IsAtMost (over (pos (f.thousandths * hertz f.band)) (pos 1)) (true_frequency cycle)
    × IsBelow (true_frequency cycle) (over (pos ((f.thousandths + 1) * hertz f.band)) (pos 1))
