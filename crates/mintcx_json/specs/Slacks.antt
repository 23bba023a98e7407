-- Slacks, as JSON.
use Rattle.std.specs.Prelude.{ℕ, ℤ, pos, ◌*ℤ◌, List, [], ◌∷◌, ◌++◌, codes, map}
use Rattle.json.specs.Json.{Json}
use Rattle.mintc_fraction.specs.Ratio.{Ratio}
use Rattle.mintc_timing.specs.Design.{Timing, pair_at}
use Rattle.mintc_slack.specs.declared.finding.Slacks.{Slacks}
use Rattle.mintc_slack.specs.declared.finding.Slacks.TheVariants as slacks
use Rattle.mintcx_frame.specs.Names.{element_name}
use Rattle.mintcx_slacks.specs.Slacks.{AreBySlack, delay_of}
use Rattle.mintcx_json.specs.Objects.{Field, IsTextOf, array_of, head_fields, name, object_of, whole}

-- A pair: its elements, how long its data takes, and by how much more it may. As all times, these are femtoseconds
-- times den.
abbrev pub pair_value : Timing → ℤ → ℤ × ℕ → Json
pair_value t den place = object_of (
    (codes "from", name (element_name t.flat (pair_at t place.1).from)) ∷
    (codes "to", name (element_name t.flat (pair_at t place.1).to)) ∷
    (codes "delay", whole (delay_of t place.1 *ℤ den)) ∷ (codes "slack", whole (place.0 *ℤ den)) ∷ [])

-- the pairs of places, in their order
abbrev pub pairs_field : Timing → ℤ → List (ℤ × ℕ) → Field
pairs_field t den places = (codes "pairs", array_of (map (pair_value t den) places))

-- a time: its denominator, and how many femtoseconds times that
abbrev pub time_fields : Ratio → List Field
time_fields time = (codes "den", whole time.den) ∷ (codes "cycle", whole time.num) ∷ []

-- The slacks at a least cycle time: that time, and all pairs.
abbrev pub slacks_value : Timing → Ratio → List (ℤ × ℕ) → List ℕ → Json
slacks_value t cycle places subject = object_of (
    head_fields (codes "slack") 0 (codes "slack") subject ++ time_fields cycle ++ pairs_field t cycle.den places ∷ [])

-- No schedule is right, so no pair has a slack.
abbrev pub no_slacks_value : List ℕ → Json
no_slacks_value subject = object_of (
    head_fields (codes "slack") 1 (codes "never") subject ++
    (codes "den", whole (pos 1)) ∷ (codes "pairs", array_of []) ∷ [])

-- The text is the object of these slacks, the least slack first.
abbrev pub IsSlackObject : Timing → Slacks → List ℕ → List ℕ → Type 0
IsSlackObject t (slacks.Least cycle extra) subject text =
    (places : List (ℤ × ℕ)) × AreBySlack extra places × IsTextOf (slacks_value t cycle places subject) text
IsSlackObject t slacks.Never subject text = IsTextOf (no_slacks_value subject) text
