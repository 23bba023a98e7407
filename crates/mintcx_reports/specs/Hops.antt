-- The hops of a stage, in words and as rows: out of an element, along an arc, or by a rule.
use Rattle.std.specs.Prelude.{ℕ, ◌<◌, ◌≤◌, ◌+◌, ℤ, pos, ◌+ℤ◌, ◌*ℤ◌, if◌then◌else◌, int_lt, List, [], ◌∷◌, ◌++◌, codes}
use Rattle.std.specs.Prelude.{length, take, flat_map, slice_index_or, Bool, Option, Some, None, All}
use Rattle.std.specs.List.{range_with_len}
use Rattle.mintc_text.specs.declared.limits.TheConstants.{MOST_COUNT}
use Rattle.mintc_fraction.specs.Ratio.{over}
use Rattle.mintc_timing.specs.declared.clocking.Schedule.{Schedule}
use Rattle.mintc_timing.specs.declared.link.LinkKind.{LinkKind}
use Rattle.mintc_timing.specs.declared.link.LinkKind.TheVariants.{Opening, Setup}
use Rattle.mintc_timing.specs.declared.parts.TimingArc.{TimingArc}
use Rattle.mintc_timing.specs.Design.{Design, element_at}
use Rattle.mintc_timing.specs.Paths.{arc_at, greatest_delay}
use Rattle.mintcx_amounts.specs.declared.unit.Unit.{Unit}
use Rattle.mintcx_amounts.specs.Amounts.{amount_text}
use Rattle.mintcx_chain.specs.declared.stages.Stage.{Stage}
use Rattle.mintcx_chain.specs.declared.stages.Why.{Why}
use Rattle.mintcx_chain.specs.declared.stages.Why.TheVariants.{Rule, Reach, Hold}
use Rattle.mintcx_chain.specs.Gates.{bit_name, gate_of, short_name}
use Rattle.mintcx_frame.specs.Names.{element_name, node_name}
use Rattle.mintcx_optima.specs.Because.{because_text}

-- the arcs that data goes along in a stage
abbrev pub arcs_of : Why → List ℕ
arcs_of (Reach j l path) = path
arcs_of why = []

-- A stage goes along arcs of the design, as many as a certificate may count.
pub record IsTraced (design : Design) (stage : Stage) : Type 0 where
  pub few : length (arcs_of stage.why) ≤ MOST_COUNT
  pub inside : All (λ n. n < length design.arcs) (arcs_of stage.why)

-- the pins that an arc joins
abbrev pub pins_text : Design → TimingArc → List ℕ
pins_text design arc = short_name (bit_name design arc.from) ++ codes " -> " ++ short_name (bit_name design arc.to)

-- the cell of a gate and the pins that its arc joins; nothing where the cell has no name
abbrev pub cell_text : Design → List ℕ → TimingArc → List ℕ
cell_text design [] arc = []
cell_text design (byte ∷ cell) arc = codes "  " ++ byte ∷ cell ++ codes " " ++ pins_text design arc

-- the cell of the arc of a number, by the cells of all arcs; empty past the last
abbrev pub cell_at : List (List ℕ) → ℕ → List ℕ
cell_at cells n = slice_index_or cells n []

-- what a bit is called on the way to an element: its own name, or where it has none the element's
abbrev pub named_or : List ℕ → List ℕ → List ℕ
named_or [] other = other
named_or (byte ∷ name) other = byte ∷ name

abbrev pub end_name : Design → ℕ → ℕ → List ℕ
end_name design l bit = named_or (bit_name design bit) (element_name design l)

-- what an arc on the way to an element is: of a gate its name and its cell, else a wire to a bit
abbrev pub arc_text : Design → List (List ℕ) → ℕ → ℕ → Option (List ℕ) → List ℕ
arc_text design cells l n (Some gate) = gate ++ cell_text design (cell_at cells n) (arc_at design.arcs n)
arc_text design cells l n None = codes "to " ++ end_name design l (arc_at design.arcs n).to

-- from which pin data goes out of an element
abbrev pub out_word : Bool → List ℕ
out_word flop = if flop then codes "  C -> Q" else codes "  D -> Q"

-- the cells of a hop's row: nothing for the cycle, how long it takes, when it ends, and what it is
abbrev pub hop_cells : Schedule → Unit → ℤ → ℤ → List ℕ → List (List ℕ)
hop_cells s unit delay ends what =
    [] ∷ amount_text unit (over delay (pos 1)) ∷ amount_text unit (over ends s.den) ∷ what ∷ []

-- the row of a hop that begins at a time; none of one that takes no time
abbrev pub hop_rows : Schedule → Unit → ℤ → ℤ → List ℕ → List (List (List ℕ))
hop_rows s unit delay ends what = if int_lt (pos 0) delay then hop_cells s unit delay ends what ∷ [] else []

-- the row out of an element whose data departs at a time
abbrev pub out_rows : Design → Schedule → Unit → ℕ → ℤ → List (List (List ℕ))
out_rows design s unit j begin = hop_rows s unit (element_at design j).dq_max
    (begin +ℤ (element_at design j).dq_max *ℤ s.den) (out_word (element_at design j).flop)

-- the row of the arc at a place of a path to an element, along which data goes from a time on
abbrev pub arc_row : Design → Schedule → List (List ℕ) → Unit → ℕ → List ℕ → ℤ → ℕ → List (List (List ℕ))
arc_row design s cells unit l path begin k =
    let n = slice_index_or path k 0 in
    hop_rows s unit (arc_at design.arcs n).max (begin +ℤ greatest_delay design.arcs (take (k + 1) path) *ℤ s.den)
    (codes "  " ++ arc_text design cells l n (gate_of design n))

-- the rows of data along a path from element j to element l
abbrev pub path_rows : Design → Schedule → List (List ℕ) → Unit → ℕ → ℕ → List ℕ → ℤ → List (List (List ℕ))
path_rows design s cells unit j l path begin = out_rows design s unit j begin
    ++ flat_map (arc_row design s cells unit l path (begin +ℤ (element_at design j).dq_max *ℤ s.den))
    (range_with_len 0 (length path))

-- how an element's opening stands to the start of its phase
abbrev pub opening_text : Bool → ℤ → List ℕ
opening_text flop delay = if flop then codes "its setup before its edge"
    else if int_lt delay (pos 0) then codes "before its edge, as D -> Q is longer than G -> Q"
    else if int_lt (pos 0) delay then codes "after its edge, as G -> Q is longer than D -> Q"
    else codes "at its edge"

-- why a rule asks for time, where it isn't a setup
abbrev pub reason_text : Design → Stage → LinkKind → List ℕ
reason_text design stage (Opening l) = opening_text (element_at design l).flop stage.delay
reason_text design stage kind = because_text design stage

-- what a rule asks for
abbrev pub rule_text : Design → Stage → LinkKind → List ℕ
rule_text design stage (Setup l) = codes "  setup"
rule_text design stage kind =
    codes "  to " ++ node_name design stage.to ++ codes ": " ++ reason_text design stage kind

-- the rows of the hops of a stage that begins at a time
abbrev pub stage_hops : Design → Schedule → List (List ℕ) → Unit → ℤ → Stage → Why → List (List (List ℕ))
stage_hops design s cells unit begin stage (Reach j l path) = path_rows design s cells unit j l path begin
stage_hops design s cells unit begin stage (Rule kind) =
    hop_cells s unit stage.delay (begin +ℤ stage.delay *ℤ s.den) (rule_text design stage kind) ∷ []
stage_hops design s cells unit begin stage (Hold j l path) = []
