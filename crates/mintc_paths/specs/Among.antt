-- The best sum of the paths along the first arcs of an order.
use Rattle.std.specs.Prelude.{◌≡◌, ℕ, ℤ, ◌≤ℤ◌, Option, IfSome, IsSomeAnd, List}
use Rattle.mintc_timing.specs.declared.parts.TimingArc.{TimingArc}
use Rattle.mintc_graph.specs.Rings.{total}
use Rattle.mintc_timing.specs.Paths.{Leads, arc_at}
use Rattle.mintc_timing.specs.Among.{AreAmong}

-- Of the paths from one bit to another along the first k arcs of the order, some path has this sum, and no path has a
-- better one; there is no such path where there is no sum. The empty path leads from a bit to itself.
pub record IsBest (AtMost : ℤ → ℤ → Type 0) (weight : ℕ → ℤ) (arcs : List TimingArc) (order : List ℕ) (k from to : ℕ)
    (best : Option ℤ) : Type 0 where
  pub attained : IfSome best (λ z. (path : List ℕ) × AreAmong order k path × Leads arcs from path to
      × (total weight path ≡ z))
  pub bound : (path : List ℕ) → AreAmong order k path → Leads arcs from path to →
      IsSomeAnd best (λ z. AtMost (total weight path) z)

-- the greatest delay of arc n, in femtoseconds
abbrev pub max_of : List TimingArc → ℕ → ℤ
max_of arcs n = (arc_at arcs n).max

-- the least delay of arc n, in femtoseconds
abbrev pub min_of : List TimingArc → ℕ → ℤ
min_of arcs n = (arc_at arcs n).min

-- the order of the whole numbers, from the greater to the less
abbrev pub AtLeast : ℤ → ℤ → Type 0
AtLeast x y = y ≤ℤ x

-- the greatest sum of the paths along the first k arcs of the order, in femtoseconds
abbrev pub IsGreatestAmong : List TimingArc → List ℕ → ℕ → ℕ → ℕ → Option ℤ → Type 0
IsGreatestAmong arcs order k from to best = IsBest ◌≤ℤ◌ (max_of arcs) arcs order k from to best

-- the least sum of these paths
abbrev pub IsLeastAmong : List TimingArc → List ℕ → ℕ → ℕ → ℕ → Option ℤ → Type 0
IsLeastAmong arcs order k from to best = IsBest AtLeast (min_of arcs) arcs order k from to best
