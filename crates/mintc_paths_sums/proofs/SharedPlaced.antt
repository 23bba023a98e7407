-- The sums at the bits, by their rows.
use Rattle.std.proofs.Common.{◌≡◌, ℕ, ◌<◌, ◌≤◌, List, length, arith}
use Rattle.std.proofs.lemmas.List.{get_or-map, get_or_past}
use Rattle.std.proofs.Math.ListN.{length-map}
use Rattle.mintc_paths_sums.specs.declared.sums.Sums.{Sums}
use Rattle.mintc_paths_sums.specs.Sums.{sums_at, no_sums}
use Rattle.mintc_paths_sums.specs.Placed.{row_of, placed}

pub length-placed : (rows : List ℕ) (sums : List Sums) → length (placed rows sums) ≡ length rows
length-placed rows sums = length-map rows (sums_at sums)

pub placed_at : (rows : List ℕ) (sums : List Sums) (bit : ℕ) → bit < length rows → sums_at (placed rows sums) bit ≡ sums_at sums (row_of rows bit)
placed_at rows sums bit below = get_or-map (sums_at sums) rows bit 0 no_sums below

pub placed_past : (rows : List ℕ) (sums : List Sums) (bit : ℕ) → length rows ≤ bit → sums_at (placed rows sums) bit ≡ no_sums
placed_past rows sums bit past = get_or_past (placed rows sums) bit no_sums (omega (arith, length-placed rows sums))
