-- Frequencies as they are shown.
use Rattle.std.specs.Prelude.{ℕ, ◌*◌, ◌/◌, ◌^◌, pos, ◌*ℤ◌, List, ◌++◌, codes, if◌then◌else◌, nat_lt, unsigned_abs}
use Rattle.mintc_fraction.specs.Ratio.{Ratio, over}
use Rattle.mintcx_amounts.specs.declared.frequency.Band.{Band}
use Rattle.mintcx_amounts.specs.declared.frequency.Band.TheVariants.{Mega, Giga, Tera}
use Rattle.mintcx_amounts.specs.declared.frequency.Frequency.{Frequency}
use Rattle.mintcx_amounts.specs.Decimals.{with_point}

-- how many hertz a thousandth of a unit has
abbrev pub hertz : Band → ℕ
hertz Mega = 10 ^ 3
hertz Giga = 10 ^ 6
hertz Tera = 10 ^ 9

abbrev pub band_word : Band → List ℕ
band_word Mega = codes " MHz"
band_word Giga = codes " GHz"
band_word Tera = codes " THz"

-- a number of thousandths of a megahertz in the unit that suits it
abbrev pub in_band : ℕ → Frequency
in_band mega =
    if nat_lt mega 10000000 then record { thousandths = mega; band = Mega } else
    if nat_lt (mega / 1000) 10000000 then record { thousandths = mega / 1000; band = Giga } else
    record { thousandths = mega / 1000 / 1000; band = Tera }

-- the frequency of a cycle time as it is shown
abbrev pub frequency_of : Ratio → Frequency
frequency_of cycle = in_band (unsigned_abs cycle.den * 10 ^ 12 / unsigned_abs cycle.num)

abbrev pub frequency_text : Ratio → List ℕ
frequency_text cycle = with_point 3 (frequency_of cycle).thousandths ++ band_word (frequency_of cycle).band

-- the true frequency of a cycle time in femtoseconds, in hertz
abbrev pub true_frequency : Ratio → Ratio
true_frequency cycle = over (cycle.den *ℤ pos (10 ^ 15)) cycle.num
