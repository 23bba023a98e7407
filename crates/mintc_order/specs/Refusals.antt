-- what a refusal for want of an order says
use Rattle.std.specs.Prelude.{◌≡◌, ◌⊎◌, ℕ, List}
use Rattle.mintc_text.specs.declared.refusals.Refusal.{Refusal}
use Rattle.mintc_text.specs.declared.refusals.Refusal.TheVariants as refusal
use Rattle.mintc_timing.specs.declared.parts.TimingArc.{TimingArc}
use Rattle.mintc_timing.specs.Accepted.{IsArcLoop, LeavesOnce}
use Rattle.mintc_timing.specs.Order.{IsOrder}

-- It names a closed list of the arcs, which leaves no bit twice.
abbrev pub NamesLoop : List TimingArc → Refusal → Type 0
NamesLoop arcs refused = (loop : List ℕ) × (refused ≡ refusal.CombinationalLoop loop) × IsArcLoop arcs loop
    × LeavesOnce arcs loop

-- Where arcs have an order, none of them lead round.
abbrev pub OrdersExcludeLoops : Type 0
OrdersExcludeLoops = (arcs : List TimingArc) (order loop : List ℕ) → IsOrder arcs order → IsArcLoop arcs loop → ⊥

-- Arcs have an order, or some of them lead round and leave no bit twice.
abbrev pub ArcsHaveOrderOrLoop : Type 0
ArcsHaveOrderOrLoop = (arcs : List TimingArc) → ((order : List ℕ) × IsOrder arcs order)
    ⊎ ((loop : List ℕ) × IsArcLoop arcs loop × LeavesOnce arcs loop)
