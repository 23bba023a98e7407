-- A design has a system or a refusal.
use Rattle.std.proofs.Common.{ℕ, ◌≤◌, List, length, ◌⊎◌, inl, inr, ⊎_elim, refl}
use Rattle.mintc_text.specs.Limits.{AreLimits}
use Rattle.mintc_text.specs.declared.limits.Most.{Most}
use Rattle.mintc_text.specs.declared.refusals.Refusal.{Refusal}
use Rattle.mintc_text.specs.declared.refusals.Refusal.TheVariants as refusal
use Rattle.mintc_timing.specs.declared.parts.Pair.{Pair}
use Rattle.mintc_timing.specs.Design.{Design}
use Rattle.mintc_timing.specs.Accepted.{IsArcLoop, LeavesOnce}
use Rattle.mintc_timing.specs.Order.{IsOrder, IsTiming}
use Rattle.mintc_order.specs.Refusals.{ArcsHaveOrderOrLoop, OrdersExcludeLoops}
use Rattle.mintc_paths.specs.Refusals.{IsExtremesRefusal}
use Rattle.mintc_paths.specs.Existing.{OrderedDesignsHaveSystemsOrRefusals}
use Rattle.mintc_build.specs.Designs.{HasSystem, IsDesignRefusal}
use Rattle.mintc_build.specs.Laws.{DesignsHaveSystemsOrRefusals}

abbrev Answer : Most → Design → Type 0
Answer most design = ((order : List ℕ) × HasSystem most design order) ⊎ ((refused : Refusal) × IsDesignRefusal most design refused)

of_order : OrderedDesignsHaveSystemsOrRefusals → OrdersExcludeLoops → (most : Most) → AreLimits most → (design : Design) (order : List ℕ) → IsOrder design.arcs order → Answer most design
of_order systems none most limits design order is_order = ⊎_elim
    (λ (found : (pairs : List Pair) × IsTiming design order pairs × (length pairs ≤ most.pairs)). inl (order, found))
    (λ (refused : (r : Refusal) × IsExtremesRefusal most design r). inr (refused.0, inr ((λ loop round. none design.arcs order loop is_order round), refused.1)))
    (systems most limits design order is_order)

pub systems_lem : ArcsHaveOrderOrLoop → OrdersExcludeLoops → OrderedDesignsHaveSystemsOrRefusals → DesignsHaveSystemsOrRefusals
systems_lem orders none systems most limits design = ⊎_elim
    (λ (found : (order : List ℕ) × IsOrder design.arcs order). of_order systems none most limits design found.0 found.1)
    (λ (round : (loop : List ℕ) × IsArcLoop design.arcs loop × LeavesOnce design.arcs loop).
    inr (refusal.CombinationalLoop round.0, inl (round.0, refl, round.1, round.2)))
    (orders design.arcs)
