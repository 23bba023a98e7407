-- what is added to a list of arcs
use Rattle.std.specs.Prelude.{◌≡◌, ◌<◌, ◌+◌, ℕ, List, length, slice_index}

-- The list is that of before and then the numbers from one place to before another.
pub record IsAdded (numbers : List ℕ) (start stop : ℕ) (before after : List ℕ) : Type 0 where
  pub count : length after + start ≡ length before + stop
  pub same : (i : ℕ) → i < length before → slice_index after i ≡ slice_index before i
  pub added : (i : ℕ) → length before + i < length after →
      slice_index after (length before + i) ≡ slice_index numbers (start + i)
