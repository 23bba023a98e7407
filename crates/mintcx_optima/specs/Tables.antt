-- The table of the chain of a least cycle.
use Rattle.std.specs.Prelude.{ℕ, ◌+◌, ℤ, pos, if◌then◌else◌, nat_lt, List, [], ◌∷◌, ◌++◌, length, map, slice_index_or}
use Rattle.std.specs.Prelude.{codes, decimal}
use Rattle.std.specs.Ordering.{int_eq}
use Rattle.std.specs.List.{range_with_len}
use Rattle.mintc_fraction.specs.Ratio.{over}
use Rattle.mintc_timing.specs.Design.{Design}
use Rattle.mintcx_amounts.specs.declared.unit.Unit.{Unit}
use Rattle.mintcx_amounts.specs.Amounts.{amount_text}
use Rattle.mintcx_chain.specs.declared.rows.Row.{Row}
use Rattle.mintcx_chain.specs.declared.stages.Stage.{Stage}
use Rattle.mintcx_chain.specs.Names.{from_name}
use Rattle.mintcx_chain.specs.Through.{through_text}
use Rattle.mintcx_chain.specs.Turning.{stage_at}
use Rattle.mintcx_columns.specs.declared.cells.Column.{Column}
use Rattle.mintcx_columns.specs.Tables.{Grid, table_text}
use Rattle.mintcx_frame.specs.Names.{node_name}
use Rattle.mintcx_frame.specs.Phases.{left, right}
use Rattle.mintcx_frame.specs.Rows.{more_text, shown_rows}
use Rattle.mintcx_manners.specs.declared.manners.Limit.{Limit}

-- the columns of the table
abbrev pub chain_columns : List Column
chain_columns = right ∷ left ∷ right ∷ right ∷ right ∷ left ∷ left ∷ []

-- its first row
abbrev pub chain_head : List (List ℕ)
chain_head = codes "cycle" ∷ codes "from" ∷ codes "at" ∷ codes "borrows" ∷ codes "delay" ∷ codes "to" ∷
    codes "through" ∷ []

-- what a latch borrows, empty where it borrows nothing
abbrev pub lent_text : Unit → ℤ → ℤ → List ℕ
lent_text unit time den = if int_eq time (pos 0) then [] else amount_text unit (over time den)

-- The cells of a stage with its row: the cycle in which it begins, what it begins at, when, what is borrowed there, its
-- delay, what it leads to, and what it goes through.
abbrev pub stage_cells : Design → Unit → ℤ → Row → Stage → List (List ℕ)
stage_cells design unit den row stage =
    decimal row.cycle ∷ from_name design stage ∷ amount_text unit (over row.at den) ∷ lent_text unit row.borrows den ∷
    amount_text unit (over stage.delay (pos 1)) ∷ node_name design stage.to ∷ through_text design stage.why ∷ []

-- the cells of the last row, which is the first stage again
abbrev pub last_cells : Design → Unit → ℤ → Row → Stage → List (List ℕ)
last_cells design unit den row first =
    decimal row.cycle ∷ from_name design first ∷ amount_text unit (over row.at den) ∷ []

-- a row by its number; past the last one stands this one
abbrev pub no_row : Row
no_row = record { at = pos 0; cycle = 0; borrows = pos 0 }

abbrev pub row_of : List Row → ℕ → Row
row_of rows n = slice_index_or rows n no_row

-- the cells of row n
abbrev pub chain_cells : Design → Unit → ℤ → List Stage → List Row → ℕ → List (List ℕ)
chain_cells design unit den stages rows n = if nat_lt n (length stages)
    then stage_cells design unit den (row_of rows n) (stage_at stages n)
    else last_cells design unit den (row_of rows n) (stage_at stages 0)

-- the table: its first row, and so many rows of the chain
abbrev pub chain_grid : Design → Unit → ℤ → List Stage → List Row → ℕ → Grid
chain_grid design unit den stages rows shown =
    record {
      columns = chain_columns;
      rows = chain_head ∷ map (chain_cells design unit den stages rows) (range_with_len 0 shown);
    }

-- its text, with as many rows as a limit allows, and the line for those that it leaves out
abbrev pub chain_text : Design → Unit → ℤ → List Stage → List Row → Limit → List ℕ
chain_text design unit den stages rows limit =
    table_text (chain_grid design unit den stages rows (shown_rows limit (length rows)))
    ++ more_text limit (length rows)
