-- An accepted design is a system's.
use Rattle.std.proofs.Common.{ℕ, ◌≤◌, List, length, arith, ⊎_elim}
use Rattle.mintc_text.specs.Limits.{AreLimits}
use Rattle.mintc_text.specs.declared.limits.Most.{Most}
use Rattle.mintc_timing.specs.declared.parts.Pair.{Pair}
use Rattle.mintc_timing.specs.Design.{Design}
use Rattle.mintc_timing.specs.Accepted.{IsAccepted, IsArcLoop, LeavesOnce}
use Rattle.mintc_timing.specs.Order.{IsOrder, IsTiming}
use Rattle.mintc_order.proofs.SharedOrderLaws.{arcs_have_order_or_loop_lem}
use Rattle.mintc_paths.specs.Existing.{AcceptedDesignsHaveSystems}
use Rattle.mintc_paths.proofs.SharedExisting.{pairs_exist_lem}

system_of : (most : Most) → AreLimits most → (design : Design) → IsAccepted most design → (order : List ℕ) → IsOrder design.arcs order → (order : List ℕ) × (pairs : List Pair) × IsTiming design order pairs × (length pairs ≤ most.pairs)
system_of most limits design accepted order is_order =
    let found = pairs_exist_lem design order is_order in
    let few = accepted.few found.0 found.1 in
    (order, found.0, record { ordered = is_order; extremes = found.1; few = omega (arith, few, limits.pairs); short = accepted.short }, few)

pub accepted_designs_have_systems_lem : AcceptedDesignsHaveSystems
accepted_designs_have_systems_lem most limits design accepted = ⊎_elim
    (λ (found : (order : List ℕ) × IsOrder design.arcs order). system_of most limits design accepted found.0 found.1)
    (λ (round : (loop : List ℕ) × IsArcLoop design.arcs loop × LeavesOnce design.arcs loop). absurd (accepted.no_loop round.0 round.1))
    (arcs_have_order_or_loop_lem design.arcs)
