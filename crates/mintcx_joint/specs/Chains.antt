-- The tables of the chain of corners.
use Rattle.std.specs.Prelude.{ℕ, ◌==◌, if◌then◌else◌, pos, List, [], ◌∷◌, ◌++◌, length, take, map, codes, decimal}
use Rattle.mintc_fraction.specs.Ratio.{over}
use Rattle.mintc_timing.specs.Design.{Design, Timing}
use Rattle.mintc_corners.specs.declared.members.CornerMember.{CornerMember}
use Rattle.mintcx_amounts.specs.declared.unit.Unit.{Unit}
use Rattle.mintcx_amounts.specs.Amounts.{amount_text}
use Rattle.mintcx_chain.specs.declared.stages.Stage.{Stage}
use Rattle.mintcx_chain.specs.Names.{from_name}
use Rattle.mintcx_chain.specs.Through.{through_text}
use Rattle.mintcx_chain.specs.Turning.{turned}
use Rattle.mintcx_columns.specs.declared.cells.Column.{Column}
use Rattle.mintcx_columns.specs.Tables.{Grid, table_text}
use Rattle.mintcx_frame.specs.Names.{node_name}
use Rattle.mintcx_frame.specs.Phases.{left, right}
use Rattle.mintcx_frame.specs.Rows.{more_text, shown_rows}
use Rattle.mintcx_manners.specs.declared.manners.Limit.{Limit}
use Rattle.mintcx_optima.specs.Because.{because_text}
use Rattle.mintcx_joint.specs.declared.tables.Telling.{Telling}
use Rattle.mintcx_joint.specs.declared.tables.Telling.TheVariants.{Through, Because}
use Rattle.mintcx_joint.specs.Shown.{design_of, own_stage}

-- the number of a corner; a member of the clock has none
abbrev pub number_text : ℕ → List ℕ
number_text n = if n == 0 then [] else decimal n

-- the columns of the table, which tells through what each stage goes, or why it asks for time
abbrev pub chain_columns : Telling → List Column
chain_columns Through = right ∷ left ∷ right ∷ left ∷ left ∷ []
chain_columns Because = right ∷ left ∷ left ∷ right ∷ left ∷ []

-- its first row
abbrev pub chain_head : Telling → List (List ℕ)
chain_head Through = codes "corner" ∷ codes "from" ∷ codes "delay" ∷ codes "to" ∷ codes "through" ∷ []
chain_head Because = codes "corner" ∷ codes "from" ∷ codes "to" ∷ codes "at least" ∷ codes "because" ∷ []

-- what a member begins at, by name
abbrev pub from_text : List Timing → CornerMember → List ℕ
from_text ts m = from_name (design_of ts m) (own_stage ts m)

-- what it leads to, by name
abbrev pub to_text : List Timing → CornerMember → List ℕ
to_text ts m = node_name (design_of ts m) (own_stage ts m).to

-- how much time it asks for
abbrev pub delay_text : List Timing → Unit → CornerMember → List ℕ
delay_text ts unit m = amount_text unit (over (own_stage ts m).delay (pos 1))

-- through what a stage goes, or why it asks for time
abbrev pub telling_text : Telling → Design → Stage → List ℕ
telling_text Through design stage = through_text design stage.why
telling_text Because design stage = because_text design stage

-- what the table tells of a member
abbrev pub told_text : Telling → List Timing → CornerMember → List ℕ
told_text telling ts m = telling_text telling (design_of ts m) (own_stage ts m)

-- The cells of a member: the number of its corner, what it begins at, how much time it asks for, what it leads to, and
-- what the table tells.
abbrev pub chain_cells : Telling → List Timing → Unit → CornerMember → List (List ℕ)
chain_cells Through ts unit m =
    number_text m.corner ∷ from_text ts m ∷ delay_text ts unit m ∷ to_text ts m ∷ told_text Through ts m ∷ []
chain_cells Because ts unit m =
    number_text m.corner ∷ from_text ts m ∷ to_text ts m ∷ delay_text ts unit m ∷ told_text Because ts m ∷ []

-- the table: its first row, and a row for each member
abbrev pub chain_grid : Telling → List Timing → Unit → List CornerMember → Grid
chain_grid telling ts unit members =
    record { columns = chain_columns telling; rows = chain_head telling ∷ map (chain_cells telling ts unit) members }

-- the text of the table of a chain that begins at its n-th member, with as many rows as a limit allows, and the line
-- for those that it leaves out
abbrev pub rows_text : Telling → List Timing → Unit → Limit → List CornerMember → ℕ → List ℕ
rows_text telling ts unit limit chain n =
    table_text (chain_grid telling ts unit (take (shown_rows limit (length chain)) (turned n chain)))
    ++ more_text limit (length chain)
