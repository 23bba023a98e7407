-- Long paths and long sums.
use Rattle.std.proofs.Common.{ℕ, ◌<◌, ◌≤◌, ◌+◌, ◌-◌, ℤ, ◌≤ℤ◌, ◌<ℤ◌, pos, List, length, arith, Option, Some, None}
use Rattle.std.specs.Prelude.{IfSome, IsSomeAnd}
use Rattle.std.proofs.lemmas.Int.{ints}
use Rattle.mintc_timing.specs.Design.{Design}
use Rattle.mintc_timing.specs.Paths.{IsPath, greatest_delay}
use Rattle.mintc_lanes.specs.Lanes.{lane_at}
use Rattle.mintc_paths_sums.specs.declared.sums.Sums.{Sums}
use Rattle.mintc_paths_sums.specs.Sums.{sums_at}
use Rattle.mintc_paths.specs.Reached.{IsReached, AreExtremes}
use Rattle.mintc_paths.specs.Long.{IsShortLane, IsFirstLane}
use Rattle.mintc_paths.specs.Refusals.{IsLong, IsFirstLong, AreShortBefore}

short_path : (design : Design) (j bit : ℕ) (x : Option ℤ) → IsReached design j bit x → IfSome x (λ z. z ≤ℤ pos 1000000000) → (path : List ℕ) → IsPath design.arcs j path bit →
    greatest_delay design.arcs path ≤ℤ pos 1000000000
short_path design j bit None h g path is = absurd (h path is)
short_path design j bit (Some z) h g path is = omega (arith, ints, h.0 path is)

long_path : (design : Design) (j bit : ℕ) (x : Option ℤ) → IsReached design j bit x → IsSomeAnd x (λ z. pos 1000000000 <ℤ z) → (path : List ℕ) × IsLong design j bit path
long_path design j bit None h g = absurd g
long_path design j bit (Some z) h g =
    let above : pos 0 <ℤ z = omega (arith, ints) in
    let found = h.1 above in
    (found.0, (found.1, omega (arith, ints)))

not_long : (design : Design) (j bit : ℕ) (path : List ℕ) → greatest_delay design.arcs path ≤ℤ pos 1000000000 → IsLong design j bit path → ⊥
not_long design j bit path h g = omega (arith, ints, g.1)

module _ (design : Design) (first lanes : ℕ) (sums : List Sums) (h : AreExtremes design first lanes sums) (before : AreShortBefore design first) where
  -- no path from the element of a short lane is long
  short_lane : (lane : ℕ) → lane < lanes → IsShortLane sums lane → (bit : ℕ) (path : List ℕ) → IsPath design.arcs (first + lane) path bit → greatest_delay design.arcs path ≤ℤ pos 1000000000
  short_lane lane below short bit path is =
      let inside = h.inside (first + lane) bit path is in
      short_path design (first + lane) bit (lane_at (sums_at sums bit).greatest lane) (h.reached bit lane inside below) (short bit inside) path is

  short_from : (end : ℕ) → end ≤ lanes → ((lane : ℕ) → lane < end → IsShortLane sums lane) → AreShortBefore design (first + end)
  short_from end few short j bit path below is = grind (arith, before j bit path, short_lane (j - first), short (j - first))

  pub more : ((lane : ℕ) → lane < lanes → IsShortLane sums lane) → AreShortBefore design (first + lanes)
  more short = short_from lanes (omega arith) short

  pub first_long : (lane bit : ℕ) → first + lanes ≤ length design.elements → IsFirstLane sums lanes lane bit → IsFirstLong design (first + lane) bit
  first_long lane bit few g = let below = g.inside in record {
    element = omega arith;
    long = long_path design (first + lane) bit (lane_at (sums_at sums bit).greatest lane) (h.reached bit lane g.at_bit.inside g.inside) g.at_bit.long;
    first_element = λ i other path sooner is. not_long design i other path (short_from lane (omega arith) g.first i other path sooner is.0) is;
    first_bit = λ other path sooner is.
        let inside = h.inside (first + lane) other path is.0 in
        not_long design (first + lane) other path
        (short_path design (first + lane) other (lane_at (sums_at sums other).greatest lane) (h.reached other lane inside g.inside) (g.at_bit.first other sooner) path is.0) is;
  }
