-- Sums in rows, and the bits whose rows these are.
use Rattle.std.specs.Prelude.{ℕ, List, slice_index_or, map}
use Rattle.mintc_paths_sums.specs.declared.sums.Sums.{Sums}
use Rattle.mintc_paths_sums.specs.Sums.{sums_at}

-- the row in which a bit's sums stand
abbrev pub row_of : List ℕ → ℕ → ℕ
row_of rows bit = slice_index_or rows bit 0

-- the sums at the bits, from those in the rows
abbrev pub placed : List ℕ → List Sums → List Sums
placed rows sums = map (sums_at sums) rows
