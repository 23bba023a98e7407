-- The text of a least cycle.
use Rattle.std.specs.Prelude.{ℕ, ◌≤◌, ℤ, List, [], ◌∷◌, ◌++◌, length, codes, All}
use Rattle.mintc_text.specs.declared.limits.TheConstants.{MOST_MEMBERS}
use Rattle.mintc_fraction.specs.Ratio.{Ratio, over}
use Rattle.mintc_timing.specs.declared.clocking.Schedule.{Schedule}
use Rattle.mintc_timing.specs.Design.{Design}
use Rattle.mintcx_amounts.specs.declared.unit.Unit.{Unit}
use Rattle.mintcx_chain.specs.declared.stages.Stage.{Stage}
use Rattle.mintcx_chain.specs.Names.{IsShort, IsStage}
use Rattle.mintcx_chain.specs.Rows.{rows_of}
use Rattle.mintcx_chain.specs.Sums.{cycles_of, delay_of}
use Rattle.mintcx_frame.specs.declared.view.View.{View}
use Rattle.mintcx_frame.specs.Ends.{foot_text, head_text, unit_for}
use Rattle.mintcx_frame.specs.Phases.{phases_text}
use Rattle.mintcx_optima.specs.Counts.{decided_text}
use Rattle.mintcx_optima.specs.Tables.{chain_text}

-- Some stages of the design, as many as a certificate may have.
pub record IsRing (design : Design) (stages : List Stage) : Type 0 where
  pub some : 1 ≤ length stages
  pub most : length stages ≤ MOST_MEMBERS
  pub each : All (IsStage design) stages
  pub short : All IsShort stages

-- the cycle time of a schedule, in femtoseconds
abbrev pub cycle_of : Schedule → Ratio
cycle_of s = over s.cycle s.den

-- the unit of the times of its answer
abbrev pub unit_of : Schedule → View → Unit
unit_of s view = unit_for view.unit (cycle_of s)

-- the chain that decides: its sums, and its rows by the schedule with its departures
abbrev pub deciding_text : Design → Schedule → List ℤ → List Stage → View → List ℕ
deciding_text design s d stages view =
    decided_text (length stages) (delay_of stages) (cycles_of stages) (unit_of s view) ++ 10 ∷ []
    ++ chain_text design (unit_of s view) s.den stages (rows_of design s d stages) view.limit

-- The text of a least cycle: its head with a word and what stands below it, the phases of its schedule, and the chain
-- that decides, with a blank line between two.
abbrev pub cycle_text : List ℕ → List ℕ → Design → Schedule → List ℤ → List Stage → View → List ℕ
cycle_text verdict second design s d stages view = head_text verdict (cycle_of s) view ++ second ++ 10 ∷ []
    ++ phases_text design s (unit_of s view) ++ 10 ∷ []
    ++ deciding_text design s d stages view ++ 10 ∷ [] ++ foot_text (unit_of s view) []

-- the same with the word of an optimum
abbrev pub least_text : Design → Schedule → List ℤ → List Stage → View → List ℕ
least_text design s d stages view = cycle_text (codes "least") [] design s d stages view
