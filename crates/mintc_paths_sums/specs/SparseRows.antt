-- The sums that are held, and the rows that have them.
use Rattle.std.specs.Prelude.{◌≡◌, ◌≢◌, ◌<◌, ◌≤◌, ◌+◌, ◌-◌, ◌^◌, ℕ, List, length, slice_index_or, map}
use Rattle.mintc_paths_sums.specs.declared.sums.Sums.{Sums}
use Rattle.mintc_paths_sums.specs.declared.sums.TheConstants.{NO_SUMS}
use Rattle.mintc_paths_sums.specs.Sums.{sums_at}

-- the place of a row's sums, 0 where it has none
abbrev pub place_at : List ℕ → ℕ → ℕ
place_at places row = slice_index_or places row 0

-- The places are by how much the rows' numbers are above the base.
abbrev pub places_of : ℕ → List ℕ → List ℕ
places_of base numbers = map (λ number. number - base) numbers

-- No two rows have one place, and at place 0 are no sums.
pub record AreHeld (places : List ℕ) (sums : List Sums) : Type 0 where
  pub none : sums_at sums 0 ≡ NO_SUMS
  pub below : (row : ℕ) → place_at places row < length sums
  pub apart : (row other : ℕ) → row ≢ other → place_at places row ≡ place_at places other → place_at places row ≡ 0

-- The same by numbers, and there is a number for the next row.
pub record AreNumbered (base : ℕ) (numbers : List ℕ) (sums : List Sums) : Type 0 where
  pub held : AreHeld (places_of base numbers) sums
  pub few : base + length sums ≤ 2 ^ 32
