-- The table of the phases of a schedule.
use Rattle.std.specs.Prelude.{ℕ, List, [], ◌∷◌, codes, map}
use Rattle.mintc_fraction.specs.Ratio.{over}
use Rattle.mintc_timing.specs.declared.clocking.Schedule.{Schedule}
use Rattle.mintc_timing.specs.Design.{Design}
use Rattle.mintc_timing.specs.Clocking.{start_of, end_of, width_of}
use Rattle.mintc_timing.specs.Violations.{phases_of}
use Rattle.mintcx_amounts.specs.declared.unit.Unit.{Unit}
use Rattle.mintcx_amounts.specs.Amounts.{amount_text}
use Rattle.mintcx_columns.specs.declared.cells.Side.TheVariants.{Left, Right}
use Rattle.mintcx_columns.specs.declared.cells.Column.{Column}
use Rattle.mintcx_columns.specs.Tables.{Grid, table_text}
use Rattle.mintcx_frame.specs.Names.{phase_name}

-- a column of names, and one of numbers
abbrev pub left : Column
left = record { side = Left; least = 0 }

abbrev pub right : Column
right = record { side = Right; least = 0 }

-- the columns of the table
abbrev pub phase_columns : List Column
phase_columns = left ∷ right ∷ right ∷ right ∷ []

-- its first row
abbrev pub phase_head : List (List ℕ)
phase_head = codes "phase" ∷ codes "starts" ∷ codes "ends" ∷ codes "width" ∷ []

-- the row of a phase: its name, when it starts, when it ends, and how wide it is
abbrev pub phase_row : Design → Schedule → Unit → ℕ → List (List ℕ)
phase_row design s unit p =
    phase_name design p ∷ amount_text unit (over (start_of s p) s.den) ∷ amount_text unit (over (end_of s p) s.den) ∷
    amount_text unit (over (width_of s p) s.den) ∷ []

-- the table: its first row, and a row for each phase
abbrev pub phases_grid : Design → Schedule → Unit → Grid
phases_grid design s unit =
    record { columns = phase_columns; rows = phase_head ∷ map (phase_row design s unit) (phases_of design) }

-- its text
abbrev pub phases_text : Design → Schedule → Unit → List ℕ
phases_text design s unit = table_text (phases_grid design s unit)
