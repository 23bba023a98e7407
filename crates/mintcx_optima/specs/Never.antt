-- The text where no schedule is right.
use Rattle.std.specs.Prelude.{ℕ, ℤ, pos, List, [], ◌∷◌, ◌++◌, length, take, map, codes}
use Rattle.std.specs.Int.{int_max}
use Rattle.std.specs.List.{fold}
use Rattle.mintc_fraction.specs.Ratio.{over}
use Rattle.mintc_timing.specs.Design.{Design}
use Rattle.mintcx_amounts.specs.declared.unit.Unit.{Unit}
use Rattle.mintcx_amounts.specs.Amounts.{amount_text}
use Rattle.mintcx_chain.specs.declared.stages.Stage.{Stage}
use Rattle.mintcx_chain.specs.Names.{from_name}
use Rattle.mintcx_chain.specs.Sums.{delay_of}
use Rattle.mintcx_columns.specs.declared.cells.Column.{Column}
use Rattle.mintcx_columns.specs.Tables.{Grid, table_text}
use Rattle.mintcx_frame.specs.declared.view.View.{View}
use Rattle.mintcx_frame.specs.Ends.{foot_text, subject_text, time_text, unit_for}
use Rattle.mintcx_frame.specs.Names.{node_name}
use Rattle.mintcx_frame.specs.Phases.{left, right}
use Rattle.mintcx_frame.specs.Rows.{more_text, shown_rows}
use Rattle.mintcx_manners.specs.declared.manners.Limit.{Limit}
use Rattle.mintcx_optima.specs.Because.{because_text}
use Rattle.mintcx_optima.specs.Counts.{counted}

-- the greatest delay of a stage of a chain, in femtoseconds; 0 where none is above 0
abbrev pub greatest_delay : List Stage → ℤ
greatest_delay stages = fold (λ most (k : Stage). int_max k.delay most) (pos 0) stages

-- the unit of the times of the answer, where the longest stage stands for a cycle
abbrev pub unit_of : List Stage → View → Unit
unit_of stages view = unit_for view.unit (over (greatest_delay stages) (pos 1))

-- the columns of the table
abbrev pub never_columns : List Column
never_columns = left ∷ left ∷ right ∷ left ∷ []

-- its first row
abbrev pub never_head : List (List ℕ)
never_head = codes "from" ∷ codes "to" ∷ codes "at least" ∷ codes "because" ∷ []

-- the cells of a stage: what it begins at, what it leads to, how much time it asks for, and why
abbrev pub never_cells : Design → Unit → Stage → List (List ℕ)
never_cells design unit stage =
    from_name design stage ∷ node_name design stage.to ∷ amount_text unit (over stage.delay (pos 1)) ∷
    because_text design stage ∷ []

-- the table: its first row, and a row for each stage
abbrev pub never_grid : Design → Unit → List Stage → Grid
never_grid design unit stages =
    record { columns = never_columns; rows = never_head ∷ map (never_cells design unit) stages }

-- the line that says how much more a chain asks for than there is
abbrev pub asks_text : List Stage → Unit → List ℕ
asks_text stages unit = codes "a chain of " ++ counted (length stages) (codes "constraint") ++ codes " asks for "
    ++ time_text unit (over (delay_of stages) (pos 1)) ++ codes " more than there are, in no cycle:" ++ 10 ∷ 10 ∷ []

-- the text of the table, with as many stages as a limit allows, and the line for those that it leaves out
abbrev pub stages_text : Design → Unit → List Stage → Limit → List ℕ
stages_text design unit stages limit =
    table_text (never_grid design unit (take (shown_rows limit (length stages)) stages))
    ++ more_text limit (length stages)

-- the first line: that no schedule does what is asked
abbrev pub claim_text : List ℕ → View → List ℕ
claim_text claim view = codes "never  " ++ claim ++ codes ", whatever its cycle time" ++ subject_text view.subject

-- The text where no schedule does what is asked: its first line, what the chain asks for, and its stages.
abbrev pub none_text : List ℕ → Design → List Stage → View → List ℕ
none_text claim design stages view = claim_text claim view ++ 10 ∷ [] ++ asks_text stages (unit_of stages view)
    ++ stages_text design (unit_of stages view) stages view.limit ++ 10 ∷ [] ++ foot_text (unit_of stages view) []

-- the same where none is right
abbrev pub never_text : Design → List Stage → View → List ℕ
never_text design stages view = none_text (codes "no schedule is right") design stages view
