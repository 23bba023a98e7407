-- The sums of paths to a bit, from up to eight elements at a time.
use Rattle.std.specs.Prelude.{◌≡◌, ◌<◌, ℕ, None, List, [], slice_index_or}
use Rattle.mintc_lanes.specs.Lanes.{lane_at, AreWithin}
use Rattle.mintc_paths_sums.specs.declared.sums.Sums.{Sums}

-- what stands for the sums at a bit past the end
abbrev pub no_sums : Sums
no_sums = record { greatest = []; least = [] }

-- the sums at a bit, or in a row
abbrev pub sums_at : List Sums → ℕ → Sums
sums_at sums bit = slice_index_or sums bit no_sums

-- No sum at a bit is above so many femtoseconds.
pub record IsBounded (most : ℕ) (sums : Sums) : Type 0 where
  pub greatest : AreWithin most sums.greatest
  pub least : AreWithin most sums.least

-- the greatest sum on the way: 2^24 arcs and one more, each of at most 10^9 femtoseconds
abbrev pub most_sum : ℕ
most_sum = 20000000000000000

-- A lane with no greatest sum has no least one.
abbrev pub IsAlike : Sums → Type 0
IsAlike sums = (lane : ℕ) → lane < 8 → lane_at sums.greatest lane ≡ None → lane_at sums.least lane ≡ None
