-- The text of a schedule in SDC.
use Rattle.std.specs.Prelude.{ℕ, ℤ, ◌&&◌, nat_le, if◌then◌else◌, List, [], ◌∷◌, ◌++◌, length, map, flat_map, codes}
use Rattle.std.specs.List.{range_with_len}
use Rattle.mintc_text.specs.Lines.{numeral_of}
use Rattle.mintc_timing.specs.declared.clocking.Schedule.{Schedule}
use Rattle.mintc_clock.specs.declared.clock.Clock.{Clock}
use Rattle.mintcx_sdc.specs.declared.text.Titles.{Titles}
use Rattle.mintcx_sdc.specs.Clocks.{clock_lines}
use Rattle.mintcx_sdc.specs.Delays.{input_lines, output_lines}

-- a byte as it stands in a comment, `?` for those that aren't printed, and a name there
abbrev pub plain_byte : ℕ → ℕ
plain_byte byte = if nat_le 32 byte && nat_le byte 126 then byte else 63

abbrev pub plain : List ℕ → List ℕ
plain name = map plain_byte name

-- what the clocks are of, and from which file
abbrev pub from_text : Titles → List ℕ
from_text titles = codes "# mintcx 0.1.0: clocks of " ++ plain titles.subject ++ codes " from " ++ plain titles.source

-- a cycle time in femtoseconds
abbrev pub cycle_text : ℤ → List ℕ
cycle_text cycle = codes ", a cycle of " ++ numeral_of cycle ++ codes " fs"

-- the first line
abbrev pub title_line : Titles → ℤ → List ℕ
title_line titles cycle = from_text titles ++ cycle_text cycle

-- the lines that tell the unit
abbrev pub fixed_lines : List (List ℕ)
fixed_lines = codes "# All numbers are in ns, exactly; read this where the library's time unit is 1 ns." ∷
    codes "set_units -time ns" ∷ []

-- The lines of the text: where it is from, its unit, a line for each clock, and those of the listed inputs and outputs.
abbrev pub sdc_lines : Clock → Schedule → Titles → List (List ℕ)
sdc_lines clock s titles = title_line titles s.cycle ∷ (fixed_lines
    ++ flat_map (clock_lines clock.phases s) (range_with_len 0 (length clock.phases))
    ++ flat_map (input_lines clock.phases) clock.inputs
    ++ flat_map (output_lines clock.phases) clock.outputs)
