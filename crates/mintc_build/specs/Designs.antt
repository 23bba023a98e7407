-- The system of a design, or its refusal.
use Rattle.std.specs.Prelude.{◌⊎◌, ◌≤◌, ℕ, List, length}
use Rattle.mintc_text.specs.declared.limits.Most.{Most}
use Rattle.mintc_text.specs.declared.refusals.Refusal.{Refusal}
use Rattle.mintc_timing.specs.Design.{Design}
use Rattle.mintc_timing.specs.declared.parts.Pair.{Pair}
use Rattle.mintc_timing.specs.Accepted.{IsArcLoop}
use Rattle.mintc_timing.specs.Order.{IsTiming}
use Rattle.mintc_order.specs.Refusals.{NamesLoop}
use Rattle.mintc_paths.specs.Refusals.{IsExtremesRefusal}

-- Why a design has no system: its arcs lead round; or they don't, and a listed path is too long or the pairs are too
-- many for the run.
abbrev pub IsDesignRefusal : Most → Design → Refusal → Type 0
IsDesignRefusal most design refused =
    NamesLoop design.arcs refused
    ⊎ (((loop : List ℕ) → IsArcLoop design.arcs loop → ⊥) × IsExtremesRefusal most design refused)

-- The design has a system with this order of its arcs, and no more pairs than the run takes.
abbrev pub HasSystem : Most → Design → List ℕ → Type 0
HasSystem most design order = (pairs : List Pair) × IsTiming design order pairs × (length pairs ≤ most.pairs)
