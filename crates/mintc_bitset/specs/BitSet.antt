-- A set of places, as words of 64 bits: a place is in it where its bit is set.
use Rattle.std.specs.Prelude.{◌≡◌, ◌*◌, ◌/◌, ◌%◌, ℕ, List, length, slice_index_or}
use Rattle.std.specs.Int.{bit_at}

-- Bit `place % 64` of word `place / 64` is set.
abbrev pub IsIn : List ℕ → ℕ → Type 0
IsIn words place = bit_at (slice_index_or words (place / 64) 0) (place % 64) ≡ 1

-- How many places there is room for.
abbrev pub room : List ℕ → ℕ
room words = 64 * length words
