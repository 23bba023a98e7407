-- What there is at a cycle time, as JSON.
use Rattle.std.specs.Prelude.{ℕ, ℤ, pos, List, [], ◌∷◌, ◌++◌, codes}
use Rattle.json.specs.Json.{Json}
use Rattle.mintc_timing.specs.declared.clocking.Schedule.{Schedule}
use Rattle.mintc_timing.specs.Design.{Design}
use Rattle.mintcx_chain.specs.declared.stages.Stage.{Stage}
use Rattle.mintcx_cycles.specs.declared.cycles.AtCycle.{AtCycle}
use Rattle.mintcx_cycles.specs.declared.cycles.AtCycle.TheVariants.{Right, Short}
use Rattle.mintcx_optima.specs.Optimum.{AreStages}
use Rattle.mintcx_json.specs.Objects.{IsTextOf, count, head_fields, object_of, whole}
use Rattle.mintcx_json.specs.Clocks.{clock_fields}
use Rattle.mintcx_json.specs.Chains.{forbidding_value}

-- A right schedule of the cycle time, with its departures.
abbrev pub right_value : Design → Schedule → List ℤ → List ℕ → Json
right_value design s d subject = object_of (
    head_fields (codes "optimise") 0 (codes "right") subject ++ clock_fields design s d)

-- No schedule of the cycle time is right: the time in femtoseconds, and the chain that forbids it.
abbrev pub short_value : Design → ℕ → List Stage → List ℕ → Json
short_value design cycle stages subject = object_of (
    head_fields (codes "optimise") 1 (codes "short") subject ++
    (codes "den", whole (pos 1)) ∷ (codes "cycle", count cycle) ∷ (codes "chain", forbidding_value design stages) ∷ [])

-- The text is the object of what there is at a cycle time: its earliest right schedule, or the chain that forbids it,
-- from its beginning.
abbrev pub IsCycleObject : Design → ℕ → AtCycle → List ℕ → List ℕ → Type 0
IsCycleObject design cycle (Right s d) subject text = IsTextOf (right_value design s d subject) text
IsCycleObject design cycle (Short chain) subject text =
    (stages : List Stage) × AreStages design [] chain stages × IsTextOf (short_value design cycle stages subject) text
