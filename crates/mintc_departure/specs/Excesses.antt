-- the latest arrivals as numbers, and the sizes of excesses
use Rattle.std.specs.Prelude.{◌≡◌, ℤ, pos, negsuc, ◌≤ℤ◌, Option, Some, None}
use Rattle.mintc_departure.specs.declared.latest.TheConstants.{LONG_AGO}
use Rattle.mintc_departure.specs.Rounds.{IsArrivalSum}

-- v stands for the latest arrival, if any comes
abbrev pub IsLast : Option ℤ → ℤ → Type 0
IsLast None v = v ≡ LONG_AGO
IsLast (Some a) v = (v ≡ a) × IsArrivalSum a

-- an arrival or a departure with a few times of the clock added
abbrev pub IsExcess : ℤ → Type 0
IsExcess x = (negsuc 8119999999999999999 ≤ℤ x) × (x ≤ℤ pos 8120000000000000000)
