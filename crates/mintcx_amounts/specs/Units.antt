-- Units of time.
use Rattle.std.specs.Prelude.{ℕ, pos, ◌*ℤ◌, List, codes, if◌then◌else◌, int_lt}
use Rattle.mintc_fraction.specs.Ratio.{Ratio}
use Rattle.mintcx_amounts.specs.declared.unit.Unit.{Unit}
use Rattle.mintcx_amounts.specs.declared.unit.Unit.TheVariants.{Femto, Pico, Nano}

-- how many femtoseconds a unit has
abbrev pub femtoseconds : Unit → ℕ
femtoseconds Femto = 1
femtoseconds Pico = 1000
femtoseconds Nano = 1000000

-- its name in texts
abbrev pub unit_word : Unit → List ℕ
unit_word Femto = codes "fs"
unit_word Pico = codes "ps"
unit_word Nano = codes "ns"

-- the unit for the times of an answer with this cycle time
abbrev pub unit_of : Ratio → Unit
unit_of cycle =
    if int_lt cycle.num (pos 10000 *ℤ cycle.den) then Femto else
    if int_lt cycle.num (pos 100000000 *ℤ cycle.den) then Pico else
    Nano
