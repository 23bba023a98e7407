-- The phases of a schedule and the elements of a design, as JSON.
use Rattle.std.specs.Prelude.{ℕ, ℤ, List, [], ◌∷◌, ◌++◌, codes, map}
use Rattle.std.specs.List.{range_with_len}
use Rattle.json.specs.Json.{Json, string}
use Rattle.mintc_timing.specs.declared.clocking.Schedule.{Schedule}
use Rattle.mintc_timing.specs.Clocking.{start_of, width_of}
use Rattle.mintc_timing.specs.Departures.{departure}
use Rattle.mintc_timing.specs.Design.{Design, element_at, element_count, phase_count, phase_of}
use Rattle.mintcx_frame.specs.Names.{element_name, kind_word, phase_name}
use Rattle.mintcx_json.specs.Objects.{Field, array_of, name, object_of, whole}

-- A phase: its name, when it starts, and how wide it is. As all times, these are femtoseconds times the schedule's
-- denominator.
abbrev pub phase_value : Design → Schedule → ℕ → Json
phase_value design s p = object_of (
    (codes "name", name (phase_name design p)) ∷ (codes "start", whole (start_of s p)) ∷
    (codes "width", whole (width_of s p)) ∷ [])

-- the phases of a schedule, in order
abbrev pub phases_value : Design → Schedule → Json
phases_value design s = array_of (map (phase_value design s) (range_with_len 1 (phase_count design)))

-- An element: its name, its kind, the name of its phase, and when its data departs, counted from the start of its
-- phase.
abbrev pub element_value : Design → List ℤ → ℕ → Json
element_value design d l = object_of (
    (codes "name", name (element_name design l)) ∷ (codes "kind", string (kind_word (element_at design l).flop)) ∷
    (codes "phase", name (phase_name design (phase_of design l))) ∷ (codes "late", whole (departure d l)) ∷ [])

-- the elements of a design with their departures, in order
abbrev pub elements_value : Design → List ℤ → Json
elements_value design d = array_of (map (element_value design d) (range_with_len 0 (element_count design)))

-- a schedule: the denominator of all times, the cycle time, and the phases
abbrev pub schedule_fields : Design → Schedule → List Field
schedule_fields design s =
    (codes "den", whole s.den) ∷ (codes "cycle", whole s.cycle) ∷ (codes "phases", phases_value design s) ∷ []

-- the same with the elements and their departures
abbrev pub clock_fields : Design → Schedule → List ℤ → List Field
clock_fields design s d = schedule_fields design s ++ (codes "elements", elements_value design d) ∷ []
