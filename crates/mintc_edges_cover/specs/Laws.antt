-- What a design keeps that another one covers.
use Rattle.std.specs.Prelude.{◌≡◌, ◌<◌, ℕ, ℤ, ◌*ℤ◌, ◌≤ℤ◌, List, All, Any, true}
use Rattle.mintc_timing.specs.declared.parts.Pair.{Pair}
use Rattle.mintc_timing.specs.declared.clocking.Schedule.{Schedule}
use Rattle.mintc_timing.specs.Clocking.{feeds_of}
use Rattle.mintc_timing.specs.Design.{Design, Timing, element_count}
use Rattle.mintc_timing.specs.Limits.{IsDesign}
use Rattle.mintc_timing.specs.Order.{IsTiming}
use Rattle.mintc_timing.specs.Paths.{IsPath, ArePairs, greatest_delay, least_delay}
use Rattle.mintc_timing.specs.Right.{IsRight, IsLeastCycle, IsHopeless}
use Rattle.mintc_departure.specs.Laws.{IsPass}
use Rattle.mintc_edges_cover.specs.Cover.{IsCover, PairLiesOn, IsFedAlike}

-- Each listed path of the design lies on one of the other, whose sums reach as far down and as far up.
abbrev pub PathsAreCovered : Type 0
PathsAreCovered = (other design : Design) (cover : IsCover other design) (j bit : ℕ) (path : List ℕ) →
    j < element_count design → IsPath design.arcs j path bit →
    (whole : List ℕ) × IsPath other.arcs (cover.element_on j) whole (cover.bit_on bit)
    × (least_delay other.arcs whole ≤ℤ least_delay design.arcs path)
    × (greatest_delay design.arcs path ≤ℤ greatest_delay other.arcs whole)

-- So does each pair.
abbrev pub PairsAreCovered : Type 0
PairsAreCovered = (other design : Design) (cover : IsCover other design) (wider pairs : List Pair) →
    ArePairs other wider → ArePairs design pairs → All (λ p. Any (PairLiesOn cover.element_on p) wider) pairs

-- A phase feeds another only where it does in the design that covers.
abbrev pub FeedsOnlyWhere : Type 0
FeedsOnlyWhere = (other t : Timing) → IsCover other.flat t.flat → ArePairs other.flat other.pairs →
    ArePairs t.flat t.pairs → (i j : ℕ) → feeds_of t i j ≡ true → feeds_of other i j ≡ true

-- A schedule that is right for a design is right, with departures of its own, for each design that it covers.
abbrev pub RightIsKept : Type 0
RightIsKept = (other t : Timing) → IsCover other.flat t.flat → ArePairs other.flat other.pairs →
    ArePairs t.flat t.pairs → (s : Schedule) (d : List ℤ) → IsRight other s d → (own : List ℤ) × IsRight t s own

-- So the least cycle is no greater,
abbrev pub LeastCycleIsNoGreater : Type 0
LeastCycleIsNoGreater = (other t : Timing) → IsCover other.flat t.flat →
    ArePairs other.flat other.pairs → ArePairs t.flat t.pairs → (num den own_num own_den : ℤ) →
    IsLeastCycle other num den → IsLeastCycle t own_num own_den → (own_num *ℤ den) ≤ℤ (num *ℤ own_den)

-- and the design is hopeless only where the other one is.
abbrev pub HopelessOnlyWhere : Type 0
HopelessOnlyWhere = (other t : Timing) → IsCover other.flat t.flat →
    ArePairs other.flat other.pairs → ArePairs t.flat t.pairs → IsHopeless t → IsHopeless other

-- A schedule that passes for a design, holds included, passes for each design that it covers and in which data reaches
-- each element that it reaches there.
abbrev pub PassIsKept : Type 0
PassIsKept = (other t : Timing) (cover : IsCover other.flat t.flat) → IsDesign t.flat →
    ArePairs other.flat other.pairs → IsTiming t.flat t.order t.pairs → IsFedAlike cover.element_on other t →
    (s : Schedule) → IsPass other s → IsPass t s
