-- A time with its unit, in whole femtoseconds.
use Rattle.std.specs.Prelude.{ℕ, ◌&&◌, ◌==◌, ◌-◌, ◌/◌, ◌%◌, List, length, take, drop, Option, Some, None}
use Rattle.std.specs.Prelude.{option_and_then, nat_le, bytes_eq, codes, if◌then◌else◌}
use Rattle.mintc_decimal.specs.Decimals.{Number, number_of, over, under}

-- how many femtoseconds a unit has
abbrev pub scale_of : List ℕ → Option ℕ
scale_of unit = if bytes_eq unit (codes "fs") then Some 1
    else (if bytes_eq unit (codes "ps") then Some 1000
    else (if bytes_eq unit (codes "ns") then Some 1000000 else None))

-- the unit is the last two bytes, and the number what stands before them
abbrev pub number_part : List ℕ → List ℕ
number_part text = take (length text - 2) text

-- the last two bytes, or all where there are fewer
abbrev pub unit_part : List ℕ → List ℕ
unit_part text = drop (length text - 2) text

-- a fraction, where it is a whole number from 1 to 10^9
abbrev pub whole_of : ℕ → ℕ → Option ℕ
whole_of n d = if (n % d == 0) && (nat_le 1 (n / d) && nat_le (n / d) 1000000000) then Some (n / d) else None

-- a number times a scale, where that is whole and from 1 to 10^9
abbrev pub femto_of : ℕ → Number → Option ℕ
femto_of scale v = if v.negative then None else whole_of (over v scale) (under v)

-- the femtoseconds of a text as `1400ps`
abbrev pub time_of : List ℕ → Option ℕ
time_of text =
    option_and_then (λ scale. option_and_then (femto_of scale) (number_of (number_part text)))
    (scale_of (unit_part text))
