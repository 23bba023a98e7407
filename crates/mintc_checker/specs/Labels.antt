-- Labels at all bits.
use Rattle.std.specs.Prelude.{◌≡◌, ◌≢◌, ◌<◌, ◌+◌, ◌*◌, ℕ, ℤ, Option, None, List, [], length, slice_index_or}
use Rattle.mintc_timing.specs.Design.{Design}
use Rattle.mintc_timing.specs.Among.{AreAmong}
use Rattle.mintc_timing.specs.Paths.{input_of}
use Rattle.mintc_lanes.specs.Lanes.{lane_at}
use Rattle.mintc_checker.specs.declared.labels.Labels.{Labels}
use Rattle.mintc_checker.specs.Trails.{IsGreatestTime, LeadsFrom, time_along, IsLabel}

-- what stands for the labels at a bit past the end
abbrev pub no_labels : Labels
no_labels = record { lanes = [] }

-- the labels at a bit
abbrev pub labels_at : List Labels → ℕ → Labels
labels_at labels bit = slice_index_or labels bit no_labels

-- the label of phase lane + 1 at a bit
abbrev pub label_at : List Labels → ℕ → ℕ → Option ℤ
label_at labels bit lane = lane_at (labels_at labels bit).lanes lane

-- Each label is the greatest time of the trails of a kind from its phase to the bit.
abbrev pub IsRowOf : Design → ℤ → List ℤ → (ℕ → List ℕ → Type 0) → ℕ → List ℤ → Type 0
IsRowOf design den d IsOfKind bit lanes = (lane : ℕ) → lane < 8 →
    IsGreatestTime (λ j path. LeadsFrom design (lane + 1) bit j path × IsOfKind j path) (time_along design den d)
    (lane_at lanes lane)

-- The bits that are held have their labels at their places, and there are no labels at the places of no such bit.
pub record AreRows (design : Design) (den : ℤ) (d : List ℤ) (IsHeld : ℕ → Type 0) (IsOfKind : ℕ → List ℕ → Type 0)
    (places : List ℕ) (rows : List Labels) : Type 0 where
  pub held : (bit : ℕ) → IsHeld bit →
      IsRowOf design den d IsOfKind bit (labels_at rows (slice_index_or places bit 0)).lanes
  pub others : (place lane : ℕ) → place < length rows → lane < 8 →
      ((bit : ℕ) → IsHeld bit → slice_index_or places bit 0 ≢ place) → label_at rows place lane ≡ None

-- At each input, each lane has the label of its phase.
pub record AreLabels (design : Design) (den : ℤ) (d : List ℤ) (labels : List Labels) : Type 0 where
  pub count : length labels ≡ 2 * length design.elements + length design.inner
  pub each : (l lane : ℕ) → l < length design.elements → lane < 8 →
      IsLabel design den d (lane + 1) (input_of l) (label_at labels (input_of l) lane)

-- the trails along no arcs
abbrev pub IsStart : ℕ → List ℕ → Type 0
IsStart j path = path ≡ []

-- the trails along the first k arcs of the order
abbrev pub IsAlong : List ℕ → ℕ → ℕ → List ℕ → Type 0
IsAlong order k j path = AreAmong order k path
