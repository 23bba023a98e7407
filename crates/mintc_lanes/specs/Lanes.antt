-- Rows of eight lanes. A lane is absent or a whole number.
use Rattle.std.specs.Prelude.{◌≡◌, ◌*◌, ◌^◌, ◌<◌, ◌≤◌, ℕ, ℤ, ◌+ℤ◌, ◌≤ℤ◌, unsigned_abs, Option, Some, None, IfSome}
use Rattle.std.specs.Prelude.{IsSomeAnd, List, Contains, if◌then◌else◌, slice_index_or}
use Rattle.std.specs.Ordering.{int_eq}
use Rattle.mintc_lanes.specs.declared.TheConstants.{ABSENT}

-- what a lane holds: None where it is absent
abbrev pub lane_of : ℤ → Option ℤ
lane_of x = if int_eq x ABSENT then None else Some x

-- lane k of a row, counted from 0
abbrev pub lane_at : List ℤ → ℕ → Option ℤ
lane_at row k = lane_of (slice_index_or row k ABSENT)

-- what a lane becomes beside another one and a number to add: where both are present, the chosen one of the lane
-- and the sum
abbrev pub joined : (ℤ → ℤ → ℤ) → Option ℤ → Option ℤ → ℤ → Option ℤ
joined choose lane None add = lane
joined choose None (Some y) add = Some (y +ℤ add)
joined choose (Some x) (Some y) add = Some (choose x (y +ℤ add))

-- each lane of the new row is what the old one becomes beside the other row's
abbrev pub AreJoined : (ℤ → ℤ → ℤ) → List ℤ → List ℤ → ℤ → List ℤ → Type 0
AreJoined choose row other add new = (k : ℕ) → k < 8 →
    lane_at new k ≡ joined choose (lane_at row k) (lane_at other k) add

-- each lane is absent or at most n in absolute value
abbrev pub AreWithin : ℕ → List ℤ → Type 0
AreWithin n row = (k : ℕ) → k < 8 → IfSome (lane_at row k) (λ x. unsigned_abs x ≤ n)

-- small enough that no lane with a number of up to 10^18 added wraps or is taken for an absent one
abbrev pub AreLanes : List ℤ → Type 0
AreLanes row = AreWithin (2 * 10 ^ 18) row

-- one of the row's lanes, and no lane is greater; it is absent where all are
pub record IsGreatestLane (row : List ℤ) (z : ℤ) : Type 0 where
  pub attained : Contains row z
  pub bound : (k : ℕ) → k < 8 → IfSome (lane_at row k) (λ x. IsSomeAnd (lane_of z) (λ y. x ≤ℤ y))
