-- Sums above the limit.
use Rattle.std.specs.Prelude.{◌<◌, ℕ, ◌<ℤ◌, ◌≤ℤ◌, IfSome, IsSomeAnd, List, length}
use Rattle.mintc_text.specs.declared.limits.TheConstants.{MOST_DELAY}
use Rattle.mintc_lanes.specs.Lanes.{lane_at}
use Rattle.mintc_paths_sums.specs.declared.sums.Sums.{Sums}
use Rattle.mintc_paths_sums.specs.Sums.{sums_at}

-- The lane's greatest sum is above 10^9 femtoseconds.
abbrev pub IsLongAt : List Sums → ℕ → ℕ → Type 0
IsLongAt sums lane bit = IsSomeAnd (lane_at (sums_at sums bit).greatest lane) (λ z. MOST_DELAY <ℤ z)

-- The lane has no greatest sum, or it is at most 10^9 femtoseconds.
abbrev pub IsShortAt : List Sums → ℕ → ℕ → Type 0
IsShortAt sums lane bit = IfSome (lane_at (sums_at sums bit).greatest lane) (λ z. z ≤ℤ MOST_DELAY)

-- No sum of the lane at the bits below this one is above the limit.
abbrev pub AreShortBelow : List Sums → ℕ → ℕ → Type 0
AreShortBelow sums lane end = (bit : ℕ) → bit < end → IsShortAt sums lane bit

-- no sum of the lane
abbrev pub IsShortLane : List Sums → ℕ → Type 0
IsShortLane sums lane = AreShortBelow sums lane (length sums)

-- The bit is the first with a sum of the lane above the limit.
pub record IsFirstBit (sums : List Sums) (lane bit : ℕ) : Type 0 where
  pub inside : bit < length sums
  pub long : IsLongAt sums lane bit
  pub first : AreShortBelow sums lane bit

-- Of so many lanes, this is the first with a sum above the limit, first at this bit.
pub record IsFirstLane (sums : List Sums) (lanes lane bit : ℕ) : Type 0 where
  pub inside : lane < lanes
  pub at_bit : IsFirstBit sums lane bit
  pub first : (other : ℕ) → other < lane → IsShortLane sums other
