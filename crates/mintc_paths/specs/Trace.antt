-- The sums from one element, and a path with one of them.
use Rattle.std.specs.Prelude.{◌≡◌, ◌<◌, ℕ, ℤ, ◌+ℤ◌, ◌≤ℤ◌, Option, Some, List, length, IsSomeAnd, All, Contains}
use Rattle.mintc_timing.specs.declared.parts.TimingArc.{TimingArc}
use Rattle.mintc_timing.specs.declared.parts.Pair.{Pair}
use Rattle.mintc_graph.specs.Rings.{total}
use Rattle.mintc_timing.specs.Design.{Timing}
use Rattle.mintc_timing.specs.Paths.{Leads, IsPath, arc_at, input_of}
use Rattle.mintc_timing.specs.Among.{AreAmong}
use Rattle.mintc_lanes.specs.Lanes.{lane_at}
use Rattle.mintc_paths_sums.specs.declared.sums.Sums.{Sums}
use Rattle.mintc_paths_sums.specs.Sums.{sums_at}
use Rattle.mintc_paths.specs.declared.trace.Extreme.{Extreme}
use Rattle.mintc_paths.specs.declared.trace.Extreme.TheVariants.{Greatest, Least}
use Rattle.mintc_paths.specs.Among.{IsBest, AtLeast}

-- Some pair of the list is of these two elements.
abbrev pub IsPairOf : List Pair → ℕ → ℕ → Type 0
IsPairOf pairs from to = (pair : Pair) × Contains pairs pair × (pair.from ≡ from) × (pair.to ≡ to)

-- the arc's greatest or least delay, in femtoseconds
abbrev pub delay_of : Extreme → TimingArc → ℤ
delay_of Greatest arc = arc.max
delay_of Least arc = arc.min

-- the greatest or the least sum from the element of the first lane, in femtoseconds
abbrev pub sum_of : Extreme → Sums → Option ℤ
sum_of Greatest sums = lane_at sums.greatest 0
sum_of Least sums = lane_at sums.least 0

-- what is no better than what
abbrev pub AtMostOf : Extreme → ℤ → ℤ → Type 0
AtMostOf Greatest x y = x ≤ℤ y
AtMostOf Least x y = AtLeast x y

-- the delay of arc n, in femtoseconds
abbrev pub weight_of : Extreme → List TimingArc → ℕ → ℤ
weight_of extreme arcs n = delay_of extreme (arc_at arcs n)

-- The sums at the bits are the best of the paths from a bit.
abbrev pub AreBestSums : Extreme → List TimingArc → List ℕ → ℕ → List Sums → Type 0
AreBestSums extreme arcs order from sums = (bit : ℕ) → bit < length sums →
    IsBest (AtMostOf extreme) (weight_of extreme arcs) arcs order (length order) from bit
    (sum_of extreme (sums_at sums bit))

-- The best sum to where the arc enters goes through it.
abbrev pub IsThrough : Extreme → List Sums → TimingArc → Type 0
IsThrough extreme sums arc = IsSomeAnd (sum_of extreme (sums_at sums arc.from))
    (λ y. sum_of extreme (sums_at sums arc.to) ≡ Some (y +ℤ delay_of extreme arc))

-- A path is traced from a bit to the end, and some path along the first k arcs of the order has the best sum to the
-- bit.
pub record IsTraced (extreme : Extreme) (arcs : List TimingArc) (order : List ℕ) (sums : List Sums) (from end : ℕ)
    (best : ℤ) (k bit : ℕ) (traced : List ℕ) : Type 0 where
  pub inside : bit < length sums
  pub leads : Leads arcs bit traced end
  pub before : (path : List ℕ) × AreAmong order k path × Leads arcs from path bit
      × (Some (total (weight_of extreme arcs) path) ≡ sum_of extreme (sums_at sums bit))
      × (total (weight_of extreme arcs) path +ℤ total (weight_of extreme arcs) traced ≡ best)

-- what a pair has of these
abbrev pub extreme_of : Extreme → Pair → ℤ
extreme_of Greatest pair = pair.max
extreme_of Least pair = pair.min

-- The path leads from one bit to another, and no such path has a better sum.
pub record IsBestPath (extreme : Extreme) (arcs : List TimingArc) (from end : ℕ) (path : List ℕ) : Type 0 where
  pub leads : Leads arcs from path end
  pub best : (other : List ℕ) → Leads arcs from other end →
      AtMostOf extreme (total (weight_of extreme arcs) other) (total (weight_of extreme arcs) path)

-- The path is a listed one from one element to another, and has the sum of their pair.
abbrev pub IsOfPair : Extreme → Timing → ℕ → ℕ → List ℕ → Type 0
IsOfPair extreme t from to path = IsPath t.flat.arcs from path (input_of to)
    × All (λ (p : Pair). p.from ≡ from → p.to ≡ to →
    total (weight_of extreme t.flat.arcs) path ≡ extreme_of extreme p) t.pairs
