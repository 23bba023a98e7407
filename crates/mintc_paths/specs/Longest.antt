-- A bound above the sums of all paths.
use Rattle.std.specs.Prelude.{◌<◌, ◌*◌, ℕ, ℤ, pos, ◌+ℤ◌, ◌≤ℤ◌, List, slice_index_or, map}
use Rattle.mintc_text.specs.declared.limits.TheConstants.{MOST_DELAY}
use Rattle.mintc_timing.specs.declared.parts.TimingArc.{TimingArc}
use Rattle.mintc_timing.specs.Paths.{Leads, arc_at, greatest_delay}

-- the sum at a bit, or in a row
abbrev pub bit_sum : List ℤ → ℕ → ℤ
bit_sum sums bit = slice_index_or sums bit (pos 0)

-- the sums at the bits, from those in their rows
abbrev pub bit_sums : List ℕ → List ℤ → List ℤ
bit_sums rows sums = map (bit_sum sums) rows

-- No sum is below 0 or above k * 10^9 femtoseconds, and none of the first k arcs of the order brings its end more
-- than the end has.
pub record AreCarried (arcs : List TimingArc) (order : List ℕ) (k : ℕ) (sums : List ℤ) : Type 0 where
  pub low : (bit : ℕ) → pos 0 ≤ℤ bit_sum sums bit
  pub high : (bit : ℕ) → bit_sum sums bit ≤ℤ pos (k * 1000000000)
  pub carried : (i : ℕ) → i < k →
      (bit_sum sums (arc_at arcs (slice_index_or order i 0)).from +ℤ (arc_at arcs (slice_index_or order i 0)).max) ≤ℤ
      bit_sum sums (arc_at arcs (slice_index_or order i 0)).to

-- No arcs in a row have a sum above 10^9 femtoseconds, wherever they begin.
abbrev pub AreRunsShort : List TimingArc → Type 0
AreRunsShort arcs = (from : ℕ) (path : List ℕ) (to : ℕ) → Leads arcs from path to →
    greatest_delay arcs path ≤ℤ MOST_DELAY
