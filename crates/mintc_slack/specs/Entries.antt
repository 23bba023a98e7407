-- The pairs by the elements that they enter.
use Rattle.std.specs.Prelude.{◌≡◌, ◌<◌, ◌-◌, ℕ, List, length, slice_index_or}
use Rattle.std.specs.List.{All, Contains}
use Rattle.mintc_timing.specs.Design.{Timing, pair_at}
use Rattle.mintc_slack.specs.declared.finding.Entry.{Entry}

-- Each entry has a pair's number and the element that the pair enters, and each pair has an entry.
pub record AreEntries (t : Timing) (entries : List Entry) : Type 0 where
  pub of_pairs : All (λ e. (e.number < length t.pairs) × (e.to ≡ (pair_at t e.number).to)) entries
  pub all : (n : ℕ) → n < length t.pairs → Contains entries (record { to = (pair_at t n).to; number = n })

-- the entry at a place, counted from 0
abbrev pub entry_at : List Entry → ℕ → Entry
entry_at entries k = slice_index_or entries k (record { to = 0; number = 0 })

-- the entry before this one is of this element
pub record HasSettled (entries : List Entry) (place l : ℕ) : Type 0 where
  pub some : 0 < place
  pub before : (entry_at entries (place - 1)).to ≡ l
