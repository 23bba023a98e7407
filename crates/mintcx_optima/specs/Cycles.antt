-- The texts of a cycle time that is asked for.
use Rattle.std.specs.Prelude.{◌≡◌, ℕ, ◌==◌, if◌then◌else◌, pos, List, [], ◌∷◌, ◌++◌, length, take, map, codes, decimal}
use Rattle.mintc_fraction.specs.Ratio.{over}
use Rattle.mintc_timing.specs.declared.clocking.Schedule.{Schedule}
use Rattle.mintc_timing.specs.Design.{Design}
use Rattle.mintc_certificate.specs.declared.members.Member.{Member}
use Rattle.mintcx_amounts.specs.declared.unit.Unit.{Unit}
use Rattle.mintcx_amounts.specs.Amounts.{amount_text}
use Rattle.mintcx_chain.specs.declared.stages.Stage.{Stage}
use Rattle.mintcx_chain.specs.Names.{from_name}
use Rattle.mintcx_chain.specs.Sums.{cycles_of, delay_of}
use Rattle.mintcx_chain.specs.Through.{through_text}
use Rattle.mintcx_columns.specs.declared.cells.Column.{Column}
use Rattle.mintcx_columns.specs.Tables.{Grid, table_text}
use Rattle.mintcx_cycles.specs.declared.cycles.AtCycle.{AtCycle}
use Rattle.mintcx_cycles.specs.declared.cycles.AtCycle.TheVariants.{Right, Short}
use Rattle.mintcx_frame.specs.declared.view.View.{View}
use Rattle.mintcx_frame.specs.Ends.{foot_text, head_text, time_text, unit_for}
use Rattle.mintcx_frame.specs.Names.{node_name}
use Rattle.mintcx_frame.specs.Phases.{left, right, phases_text}
use Rattle.mintcx_frame.specs.Rows.{more_text, shown_rows}
use Rattle.mintcx_manners.specs.declared.manners.Limit.{Limit}
use Rattle.mintcx_optima.specs.Counts.{counted}
use Rattle.mintcx_optima.specs.Least.{cycle_of, unit_of}
use Rattle.mintcx_optima.specs.Never.{asks_text}
use Rattle.mintcx_optima.specs.Optimum.{AreStages}

-- The text of a right schedule of the cycle time: its head, and its phases.
abbrev pub right_text : Design → Schedule → View → List ℕ
right_text design s view = head_text (codes "right") (cycle_of s) view ++ 10 ∷ []
    ++ phases_text design s (unit_of s view) ++ 10 ∷ [] ++ foot_text (unit_of s view) []

-- the line that says how long a chain takes, and which cycle it needs so
abbrev pub needs_text : List Stage → Unit → List ℕ
needs_text stages unit = if cycles_of stages == 0 then asks_text stages unit else
    (codes "a chain of " ++ counted (length stages) (codes "constraint")
    ++ codes " takes " ++ time_text unit (over (delay_of stages) (pos 1)) ++ codes " in "
    ++ counted (cycles_of stages) (codes "cycle") ++ codes ", and so needs a cycle of "
    ++ amount_text unit (over (delay_of stages) (pos (cycles_of stages))) ++ codes ":" ++ 10 ∷ 10 ∷ [])

-- the columns of the table
abbrev pub short_columns : List Column
short_columns = left ∷ right ∷ right ∷ left ∷ left ∷ []

-- its first row
abbrev pub short_head : List (List ℕ)
short_head = codes "from" ∷ codes "delay" ∷ codes "cycles" ∷ codes "to" ∷ codes "through" ∷ []

-- the cells of a stage: what it begins at, how much time it asks for in how many cycles, what it leads to, and through
-- what
abbrev pub short_cells : Design → Unit → Stage → List (List ℕ)
short_cells design unit stage =
    from_name design stage ∷ amount_text unit (over stage.delay (pos 1)) ∷ decimal stage.cycles ∷
    node_name design stage.to ∷ through_text design stage.why ∷ []

-- the table: its first row, and a row for each stage
abbrev pub short_grid : Design → Unit → List Stage → Grid
short_grid design unit stages =
    record { columns = short_columns; rows = short_head ∷ map (short_cells design unit) stages }

-- the text of the table, with as many stages as a limit allows, and the line for those that it leaves out
abbrev pub hops_text : Design → Unit → List Stage → Limit → List ℕ
hops_text design unit stages limit =
    table_text (short_grid design unit (take (shown_rows limit (length stages)) stages))
    ++ more_text limit (length stages)

-- The text of a cycle time that a chain forbids: its head, how long the chain takes, and its stages.
abbrev pub short_text : Design → ℕ → List Stage → View → List ℕ
short_text design cycle stages view = head_text (codes "short") (over (pos cycle) (pos 1)) view ++ 10 ∷ []
    ++ needs_text stages (unit_for view.unit (over (pos cycle) (pos 1)))
    ++ hops_text design (unit_for view.unit (over (pos cycle) (pos 1))) stages view.limit ++ 10 ∷ []
    ++ foot_text (unit_for view.unit (over (pos cycle) (pos 1))) []

-- The text of a cycle time that the members of a chain forbid.
abbrev pub IsShortOf : Design → ℕ → List Member → View → List ℕ → Type 0
IsShortOf design cycle chain view text = (stages : List Stage) × AreStages design [] chain stages
    × (text ≡ short_text design cycle stages view)

-- The text of what there is at a cycle time: of its earliest right schedule, or of the chain that forbids it.
abbrev pub IsCycleText : Design → ℕ → AtCycle → View → List ℕ → Type 0
IsCycleText design cycle (Right s d) view text = text ≡ right_text design s view
IsCycleText design cycle (Short chain) view text = IsShortOf design cycle chain view text
