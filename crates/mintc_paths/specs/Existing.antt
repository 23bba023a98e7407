-- Each design whose arcs have an order has its pairs, however many they are, and each accepted one is a system's.
use Rattle.std.specs.Prelude.{◌⊎◌, ◌≤◌, ℕ, List, length}
use Rattle.mintc_text.specs.Limits.{AreLimits}
use Rattle.mintc_text.specs.declared.limits.Most.{Most}
use Rattle.mintc_text.specs.declared.refusals.Refusal.{Refusal}
use Rattle.mintc_timing.specs.declared.parts.Pair.{Pair}
use Rattle.mintc_timing.specs.Design.{Design}
use Rattle.mintc_timing.specs.Accepted.{IsAccepted}
use Rattle.mintc_timing.specs.Order.{IsOrder, IsTiming}
use Rattle.mintc_timing.specs.Paths.{ArePairs}
use Rattle.mintc_paths.specs.Refusals.{IsExtremesRefusal}

-- Some list has all pairs of the design with their extremes.
abbrev pub PairsExist : Type 0
PairsExist = (design : Design) (order : List ℕ) → IsOrder design.arcs order → (pairs : List Pair)
    × ArePairs design pairs

-- Each design that a run accepts has an order and pairs that make it a system, and no more pairs than the run takes.
abbrev pub AcceptedDesignsHaveSystems : Type 0
AcceptedDesignsHaveSystems = (most : Most) → AreLimits most → (design : Design) → IsAccepted most design →
    (order : List ℕ) × (pairs : List Pair) × IsTiming design order pairs × (length pairs ≤ most.pairs)

-- Each design whose arcs have an order makes a system with it of no more pairs than the run takes, or a path of it is
-- too long, or its pairs are too many for the run.
abbrev pub OrderedDesignsHaveSystemsOrRefusals : Type 0
OrderedDesignsHaveSystemsOrRefusals = (most : Most) → AreLimits most → (design : Design) (order : List ℕ) →
    IsOrder design.arcs order →
    ((pairs : List Pair) × IsTiming design order pairs × (length pairs ≤ most.pairs))
    ⊎ ((refused : Refusal) × IsExtremesRefusal most design refused)
