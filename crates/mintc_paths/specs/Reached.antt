-- What the sums at the bits say of a design's listed paths, whatever the order of its arcs.
use Rattle.std.specs.Prelude.{◌≡◌, ◌<◌, ◌+◌, ℕ, ℤ, pos, ◌≤ℤ◌, ◌<ℤ◌, Option, Some, None, List, length}
use Rattle.mintc_timing.specs.declared.parts.Pair.{Pair}
use Rattle.mintc_timing.specs.Design.{Design}
use Rattle.mintc_timing.specs.Paths.{IsPath, input_of, greatest_delay, HasExtremes}
use Rattle.mintc_lanes.specs.Lanes.{lane_at}
use Rattle.mintc_paths_sums.specs.declared.sums.Sums.{Sums}
use Rattle.mintc_paths_sums.specs.Sums.{sums_at}

-- the pair of elements a and b with these extremes, in femtoseconds
abbrev pub pair_of : ℕ → ℕ → ℤ → ℤ → Pair
pair_of a b min max = record { from = a; to = b; min = min; max = max }

-- The greatest and the least sum make a pair of elements j and l, or no listed path leads from j to l.
abbrev pub IsPaired : Design → ℕ → ℕ → Option ℤ → Option ℤ → Type 0
IsPaired design j l None least = (path : List ℕ) → IsPath design.arcs j path (input_of l) → ⊥
IsPaired design j l (Some max) None = ⊥
IsPaired design j l (Some max) (Some min) = HasExtremes design (pair_of j l min max)

-- the lane of element j, at the input of each element
abbrev pub IsPairedLane : Design → List Sums → ℕ → ℕ → Type 0
IsPairedLane design sums j lane = (l : ℕ) → l < length design.elements →
    IsPaired design j l (lane_at (sums_at sums (input_of l)).greatest lane)
    (lane_at (sums_at sums (input_of l)).least lane)

-- No listed path from element j to the bit exceeds the greatest sum, and above 0 some path has it.
abbrev pub IsReached : Design → ℕ → ℕ → Option ℤ → Type 0
IsReached design j bit None = (path : List ℕ) → IsPath design.arcs j path bit → ⊥
IsReached design j bit (Some z) =
    ((path : List ℕ) → IsPath design.arcs j path bit → greatest_delay design.arcs path ≤ℤ z)
    × (pos 0 <ℤ z → (path : List ℕ) × IsPath design.arcs j path bit × (greatest_delay design.arcs path ≡ z))

-- Lane i of each bit has the sums of element first + i.
pub record AreExtremes (design : Design) (first lanes : ℕ) (sums : List Sums) : Type 0 where
  pub paired : (lane : ℕ) → lane < lanes → IsPairedLane design sums (first + lane) lane
  pub reached : (bit lane : ℕ) → bit < length sums → lane < lanes →
      IsReached design (first + lane) bit (lane_at (sums_at sums bit).greatest lane)
  pub inside : (j bit : ℕ) (path : List ℕ) → IsPath design.arcs j path bit → bit < length sums
