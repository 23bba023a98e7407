-- The judgement of a schedule, as JSON.
use Rattle.std.specs.Prelude.{ℕ, ◌+◌, ℤ, List, [], ◌∷◌, ◌++◌, codes, map, Option, Some, None}
use Rattle.std.specs.List.{range_with_len}
use Rattle.json.specs.Json.{Json, string}
use Rattle.mintc_timing.specs.declared.clocking.Schedule.{Schedule}
use Rattle.mintc_timing.specs.declared.violation.Broken.{Broken}
use Rattle.mintc_timing.specs.declared.violation.Broken.TheVariants as broken
use Rattle.mintc_timing.specs.declared.violation.Violation.{Violation}
use Rattle.mintc_timing.specs.Departures.{departure}
use Rattle.mintc_timing.specs.Design.{Design, Timing, element_at, element_count, phase_of}
use Rattle.mintcx_frame.specs.Names.{element_name, kind_word, phase_name}
use Rattle.mintcx_judgements.specs.Sources.{from_of}
use Rattle.mintcx_json.specs.Objects.{IsTextOf, array_of, head_fields, name, object_of, whole}
use Rattle.mintcx_json.specs.Chains.{bound_fields}
use Rattle.mintcx_json.specs.Clocks.{schedule_fields}

-- An element of a schedule that is right: its name, its kind, its phase, and when its data departs at the latest and at
-- the earliest, counted from the start of its phase.
abbrev pub departing_value : Design → List ℤ → List ℤ → ℕ → Json
departing_value design late early l = object_of (
    (codes "name", name (element_name design l)) ∷ (codes "kind", string (kind_word (element_at design l).flop)) ∷
    (codes "phase", name (phase_name design (phase_of design l))) ∷ (codes "late", whole (departure late l)) ∷
    (codes "early", whole (departure early l)) ∷ [])

-- A pass: the schedule, and its elements in order.
abbrev pub pass_value : Timing → Schedule → List ℤ → List ℤ → List ℕ → Json
pass_value t s late early subject = object_of (
    head_fields (codes "check") 0 (codes "pass") subject ++ schedule_fields t.flat s ++
    (codes "elements", array_of (map (departing_value t.flat late early) (range_with_len 0 (element_count t.flat)))) ∷
    [])

-- the word of a constraint's kind
abbrev pub broken_word : Broken → List ℕ
broken_word (broken.Cycle p) = codes "cycle"
broken_word (broken.Order p) = codes "order"
broken_word (broken.Span p) = codes "span"
broken_word (broken.Width p) = codes "width"
broken_word (broken.Apart i j) = codes "apart"
broken_word (broken.Bound n) = codes "bound"
broken_word (broken.Loop ring) = codes "loop"
broken_word (broken.Setup l) = codes "setup"
broken_word (broken.Hold l) = codes "hold"

-- What a constraint is of, by name: one phase or two, the elements round which data goes, or an element. A bound has no
-- name.
abbrev pub names_of : Timing → Broken → List (List ℕ)
names_of t (broken.Cycle p) = phase_name t.flat p ∷ []
names_of t (broken.Order p) = phase_name t.flat p ∷ phase_name t.flat (p + 1) ∷ []
names_of t (broken.Span p) = phase_name t.flat p ∷ []
names_of t (broken.Width p) = phase_name t.flat p ∷ []
names_of t (broken.Apart i j) = phase_name t.flat i ∷ phase_name t.flat j ∷ []
names_of t (broken.Bound n) = []
names_of t (broken.Loop ring) = map (from_of t) ring
names_of t (broken.Setup l) = element_name t.flat l ∷ []
names_of t (broken.Hold l) = element_name t.flat l ∷ []

-- the bound that a constraint is, if it is one
abbrev pub bound_of : Broken → Option ℕ
bound_of (broken.Bound n) = Some n
bound_of kind = None

-- A violation: its kind, what it is of, and by how much it fails, in femtoseconds times the schedule's denominator.
abbrev pub violation_value : Timing → Violation → Json
violation_value t v = object_of (
    (codes "kind", string (broken_word v.broken)) ∷ (codes "by", whole v.amount) ∷
    (codes "of", array_of (map name (names_of t v.broken))) ∷ bound_fields (bound_of v.broken))

-- A fail: the schedule, and all that it breaks, in mintc's order.
abbrev pub fail_value : Timing → Schedule → List Violation → List ℕ → Json
fail_value t s vs subject = object_of (
    head_fields (codes "check") 1 (codes "fail") subject ++ schedule_fields t.flat s ++
    (codes "violations", array_of (map (violation_value t) vs)) ∷ [])

-- The text is the object of a pass with these departures.
abbrev pub IsPassObject : Timing → Schedule → List ℤ → List ℤ → List ℕ → List ℕ → Type 0
IsPassObject t s late early subject text = IsTextOf (pass_value t s late early subject) text

-- The text is the object of a fail that breaks these.
abbrev pub IsFailObject : Timing → Schedule → List Violation → List ℕ → List ℕ → Type 0
IsFailObject t s vs subject text = IsTextOf (fail_value t s vs subject) text
