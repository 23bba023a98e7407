-- The arcs that leave the rows that are reached.
use Rattle.std.specs.Prelude.{◌≡◌, ◌⊎◌, ◌<◌, ◌≤◌, ◌^◌, ℕ, List, length, slice_index_or, Bool, true, false}
use Rattle.mintc_bitset.specs.BitSet.{IsIn, room}
use Rattle.mintc_timing.specs.declared.parts.TimingArc.{TimingArc}
use Rattle.mintc_timing.specs.Paths.{arc_at}
use Rattle.mintc_paths.specs.declared.worklist.Worklist.{Worklist}

-- There is room for so many arcs. The words are few, so that each place has a number.
pub record IsReady (arcs : ℕ) (awake : Worklist) : Type 0 where
  pub room : arcs ≤ room awake.places.words.items
  pub few : length awake.places.words.items ≤ 2 ^ 32

-- The arc at this place is awake.
abbrev pub IsOn : Worklist → ℕ → Type 0
IsOn awake place = (awake.all ≡ true) ⊎ IsIn awake.places.words.items place

-- The same, and each arc from this place on that leaves a row that is reached is awake.
pub record IsAwake (along : List TimingArc) (place : ℕ) (reached : List Bool) (awake : Worklist) : Type 0 where
  pub ready : IsReady (length along) awake
  pub each : (i : ℕ) → place ≤ i → i < length along → slice_index_or reached (arc_at along i).from false ≡ true →
      IsOn awake i
