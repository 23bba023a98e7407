-- Chains of constraints, as JSON.
use Rattle.std.specs.Prelude.{ℕ, ◌+◌, ◌*◌, ◌/◌, ℤ, pos, ◌*ℤ◌, Bool, true, false, if◌then◌else◌, nat_lt}
use Rattle.std.specs.Prelude.{List, [], ◌∷◌, codes, map, Option, Some, None}
use Rattle.json.specs.Json.{Json, string}
use Rattle.mintc_timing.specs.declared.clocking.Schedule.{Schedule}
use Rattle.mintc_timing.specs.declared.link.LinkKind.{LinkKind}
use Rattle.mintc_timing.specs.declared.link.LinkKind.TheVariants as kind
use Rattle.mintc_timing.specs.declared.parts.TimingArc.{TimingArc}
use Rattle.mintc_timing.specs.Design.{Design, element_count}
use Rattle.mintc_timing.specs.Paths.{arc_at}
use Rattle.mintcx_frame.specs.Names.{element_name, node_name}
use Rattle.mintcx_chain.specs.declared.stages.Stage.{Stage}
use Rattle.mintcx_chain.specs.declared.stages.Why.{Why}
use Rattle.mintcx_chain.specs.declared.stages.Why.TheVariants.{Rule, Reach, Hold}
use Rattle.mintcx_chain.specs.Gates.{bit_name}
use Rattle.mintcx_chain.specs.Names.{from_name}
use Rattle.mintcx_chain.specs.Sums.{cycles_of, delay_of}
use Rattle.mintcx_json.specs.Objects.{Field, array_of, count, name, object_of, whole}

-- the name of a bit: an element's bit has that of the element
abbrev pub end_name : Design → ℕ → List ℕ
end_name design bit =
    if nat_lt bit (2 * element_count design) then element_name design (bit / 2) else bit_name design bit

-- the least delay of an arc, or its greatest one
abbrev pub arc_delay : Bool → TimingArc → ℤ
arc_delay least arc = if least then arc.min else arc.max

-- An arc of a path: its number, counted from 0, what it leads to, and its delay in femtoseconds times den.
abbrev pub arc_value : Design → ℤ → Bool → ℕ → Json
arc_value design den least n = object_of (
    (codes "arc", count n) ∷ (codes "to", name (end_name design (arc_at design.arcs n).to)) ∷
    (codes "delay", whole (arc_delay least (arc_at design.arcs n) *ℤ den)) ∷ [])

-- the path that data takes, with the least delays of its arcs or the greatest ones
abbrev pub path_field : Design → ℤ → Bool → List ℕ → List Field
path_field design den least path = (codes "path", array_of (map (arc_value design den least) path)) ∷ []

-- the word of a rule's kind
abbrev pub rule_word : LinkKind → List ℕ
rule_word (kind.Start p) = codes "start"
rule_word (kind.Cycle p) = codes "cycle"
rule_word (kind.Order p) = codes "order"
rule_word (kind.Span p) = codes "span"
rule_word (kind.Width p) = codes "width"
rule_word (kind.Apart i j) = codes "apart"
rule_word (kind.Opening l) = codes "opening"
rule_word (kind.Opened l) = codes "opened"
rule_word (kind.Reach j l) = codes "reach"
rule_word (kind.Setup l) = codes "setup"
rule_word (kind.Bound n) = codes "bound"
rule_word (kind.Other n) = codes "other"

-- the word of why a stage is there
abbrev pub why_word : Why → List ℕ
why_word (Rule kind) = rule_word kind
why_word (Reach j l path) = codes "reach"
why_word (Hold j l path) = codes "hold"

-- the bound that a rule is, if it is one
abbrev pub bound_of : LinkKind → Option ℕ
bound_of (kind.Bound n) = Some n
bound_of kind = None

-- the number of a bound, counted from 1
abbrev pub bound_fields : Option ℕ → List Field
bound_fields (Some n) = (codes "bound", count (n + 1)) ∷ []
bound_fields None = []

-- what more is said of why a stage is there: the path of data, with its greatest delays, or for a hold with its least
-- ones; of a bound its number
abbrev pub why_fields : Design → ℤ → Why → List Field
why_fields design den (Rule kind) = bound_fields (bound_of kind)
why_fields design den (Reach j l path) = path_field design den false path
why_fields design den (Hold j l path) = path_field design den true path

-- A member of a chain: why it is there, what it begins at and leads to, how much time it asks for, in femtoseconds
-- times den, less so many cycles.
abbrev pub stage_fields : Design → ℤ → Stage → List Field
stage_fields design den stage =
    (codes "kind", string (why_word stage.why)) ∷ (codes "from", name (from_name design stage)) ∷
    (codes "to", name (node_name design stage.to)) ∷ (codes "delay", whole (stage.delay *ℤ den)) ∷
    (codes "cycles", count stage.cycles) ∷ why_fields design den stage.why

abbrev pub stage_value : Design → ℤ → Stage → Json
stage_value design den stage = object_of (stage_fields design den stage)

-- a chain that takes so much time in its cycles: both, and its members in order
abbrev pub chain_value : Design → ℤ → ℤ → List Stage → Json
chain_value design den delay stages = object_of (
    (codes "delay", whole delay) ∷ (codes "cycles", count (cycles_of stages)) ∷
    (codes "members", array_of (map (stage_value design den) stages)) ∷ [])

-- A chain that decides the cycle time of a schedule takes as many cycles as it has.
abbrev pub deciding_value : Design → Schedule → List Stage → Json
deciding_value design s stages = chain_value design s.den (pos (cycles_of stages) *ℤ s.cycle) stages

-- a chain that forbids, with its delay in whole femtoseconds
abbrev pub forbidding_value : Design → List Stage → Json
forbidding_value design stages = chain_value design (pos 1) (delay_of stages) stages
