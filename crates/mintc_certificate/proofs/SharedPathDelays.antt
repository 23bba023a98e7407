-- The delay of a path, arc by arc.
use Rattle.std.proofs.Common.{◌≡◌, ◌<◌, ◌≤◌, ◌+◌, ℕ, pos, ◌+ℤ◌, ◌≤ℤ◌, List, [], ◌∷◌, length, get_or, take, arith}
use Rattle.std.specs.List.{All}
use Rattle.std.proofs.lemmas.Grind.{take_at_read}
use Rattle.std.proofs.lemmas.Int.{ints}
use Rattle.std.proofs.lemmas.List.Elements.{All-nil, All-cons}
use Rattle.mintc_timing.specs.declared.parts.TimingArc.{TimingArc}
use Rattle.mintc_timing.specs.Design.{Design, no_arc}
use Rattle.mintc_timing.specs.Limits.{IsDelay, IsDesign}
use Rattle.mintc_timing.specs.Order.{ArePathsShort}
use Rattle.mintc_timing.specs.Paths.{Leads, arc_at, output_of, greatest_delay}
use Rattle.mintc_graph.proofs.SharedRingLaws.{total-append}

-- one more arc of a sum
pub delay_more : (arcs : List TimingArc) (path : List ℕ) (i : ℕ) → i < length path →
    greatest_delay arcs (take (i + 1) path) ≡ greatest_delay arcs (take i path) +ℤ (arc_at arcs (get_or path i 0)).max
delay_more arcs path i below = grind (arith, ints, take_at_read, total-append)

-- the arcs of a path exist
pub Leads-inside : (arcs : List TimingArc) (from : ℕ) (path : List ℕ) (to : ℕ) → Leads arcs from path to → All (λ n. n < length arcs) path
Leads-inside arcs from [] to h = All-nil (λ n. n < length arcs)
Leads-inside arcs from (n ∷ path) to h = All-cons (λ k. k < length arcs) n path h.0 (Leads-inside arcs (arc_at arcs n).to path to h.2)

-- A path of arcs that take time takes time.
delay-least : (arcs : List TimingArc) → ((n : ℕ) → n < length arcs → pos 0 ≤ℤ (arc_at arcs n).max) →
    (from : ℕ) (path : List ℕ) (to : ℕ) → Leads arcs from path to → pos 0 ≤ℤ greatest_delay arcs path
delay-least arcs each from [] to h = omega (arith, ints)
delay-least arcs each from (n ∷ path) to h =
    let here = each n h.0 in
    let rest = delay-least arcs each (arc_at arcs n).to path to h.2 in
    omega (arith, ints)

-- a path from an element takes no more than a delay may
pub path-range : (design : Design) → IsDesign design → ArePathsShort design → (j bit : ℕ) (path : List ℕ) → j < length design.elements →
    Leads design.arcs (output_of j) path bit → IsDelay (greatest_delay design.arcs path)
path-range design limits short j bit [] element leads = (omega (arith, ints), omega (arith, ints))
path-range design limits short j bit (n ∷ path) element leads =
    (delay-least design.arcs (λ k g. (limits.each_arc k no_arc g).max.0) (output_of j) (n ∷ path) bit leads, short j bit (n ∷ path) element (λ e. cc e, leads))
