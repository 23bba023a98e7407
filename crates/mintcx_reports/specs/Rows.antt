-- The table of the hops of a chain.
use Rattle.std.specs.Prelude.{◌==◌, ℕ, ◌+◌, ℤ, pos, ◌*ℤ◌, if◌then◌else◌, List, [], ◌∷◌, ◌++◌, codes}
use Rattle.std.specs.Prelude.{decimal, flat_map, length}
use Rattle.std.specs.List.{range_with_len}
use Rattle.mintc_fraction.specs.Ratio.{over}
use Rattle.mintc_timing.specs.declared.clocking.Schedule.{Schedule}
use Rattle.mintc_timing.specs.Design.{Design}
use Rattle.mintcx_amounts.specs.declared.unit.Unit.{Unit}
use Rattle.mintcx_amounts.specs.Amounts.{amount_text}
use Rattle.mintcx_chain.specs.declared.rows.Row.{Row}
use Rattle.mintcx_chain.specs.declared.stages.Stage.{Stage}
use Rattle.mintcx_chain.specs.Names.{from_name}
use Rattle.mintcx_chain.specs.Sums.{cycles_of}
use Rattle.mintcx_chain.specs.Turning.{stage_at}
use Rattle.mintcx_columns.specs.declared.cells.Column.{Column}
use Rattle.mintcx_columns.specs.Tables.{Grid}
use Rattle.mintcx_frame.specs.Phases.{left, right}
use Rattle.mintcx_optima.specs.Counts.{counted}
use Rattle.mintcx_optima.specs.Tables.{row_of}
use Rattle.mintcx_reports.specs.Begins.{begin_text, moment_text}
use Rattle.mintcx_reports.specs.Hops.{stage_hops}

-- the columns of the table
abbrev pub hop_columns : List Column
hop_columns = right ∷ right ∷ right ∷ left ∷ []

-- its first row
abbrev pub hop_head : List (List ℕ)
hop_head = codes "cycle" ∷ codes "delay" ∷ codes "time" ∷ codes "at" ∷ []

-- the cells of a row where a stage begins: the cycle, no delay, when, and what is there
abbrev pub begin_cells : Schedule → Unit → Row → List ℕ → List (List ℕ)
begin_cells s unit row what = decimal row.cycle ∷ [] ∷ amount_text unit (over row.at s.den) ∷ what ∷ []

-- the rows of a stage: where it begins, and its hops
abbrev pub stage_rows : Design → Schedule → List (List ℕ) → Unit → Row → Stage → List (List (List ℕ))
stage_rows design s cells unit row stage = begin_cells s unit row (begin_text design s unit row stage) ∷ []
    ++ stage_hops design s cells unit row.at stage stage.why

-- so many cycles as a time, and as a product
abbrev pub product_text : Schedule → Unit → ℕ → List ℕ
product_text s unit cycles = codes ": " ++ moment_text unit s (pos cycles *ℤ s.cycle) ++ codes " = "
    ++ decimal cycles ++ codes " x " ++ moment_text unit s s.cycle

-- the same where they are not one
abbrev pub turns_text : Schedule → Unit → ℕ → List ℕ
turns_text s unit cycles = if cycles == 1 then [] else product_text s unit cycles

-- the first stage again, so many cycles on
abbrev pub again_text : Design → Schedule → Unit → Stage → ℕ → List ℕ
again_text design s unit first cycles = from_name design first ++ codes " again, " ++ counted cycles (codes "cycle")
    ++ codes " on" ++ turns_text s unit cycles

-- the last row: the first stage again
abbrev pub last_cells : Design → Schedule → Unit → List Stage → List Row → List (List ℕ)
last_cells design s unit stages rows = begin_cells s unit (row_of rows (length stages))
    (again_text design s unit (stage_at stages 0) (cycles_of stages))

-- the rows of stage n
abbrev pub nth_rows : Design → Schedule → List (List ℕ) → Unit → List Stage → List Row → ℕ → List (List (List ℕ))
nth_rows design s cells unit stages rows n =
    stage_rows design s cells unit (row_of rows n) (stage_at stages n)

-- the table: its first row, the rows of each stage, and the last row
abbrev pub hop_grid : Design → Schedule → List (List ℕ) → Unit → List Stage → List Row → Grid
hop_grid design s cells unit stages rows =
    record {
      columns = hop_columns;
      rows = hop_head ∷ flat_map (nth_rows design s cells unit stages rows) (range_with_len 0 (length stages))
          ++ last_cells design s unit stages rows ∷ [];
    }
