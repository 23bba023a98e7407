-- Setups and holds as they are drawn, in their ranges.
use Rattle.std.specs.Prelude.{◌≡◌, ◌<◌, ◌≤◌, ◌+◌, ℕ, ℤ, pos, negsuc, ◌≤ℤ◌}
use Rattle.std.specs.Prelude.{List, [], ◌++◌, length, map, All, Option, Some, None}
use Rattle.mintc_timing.specs.Design.{Design, element_count}
use Rattle.mintcx_judgements.specs.Shown.{IsLeaving, IsLong}
use Rattle.mintcx_chart.specs.Ranges.{IsDrawnTime, IsLaps}
use Rattle.mintcx_chart.specs.declared.lanes.Lane.{Lane}
use Rattle.mintcx_chart.specs.Sheets.{IsLane}
use Rattle.mintcx_fares.specs.declared.drawing.Fares.{Fares}
use Rattle.mintcx_fares.specs.declared.items.Item.{Item}
use Rattle.mintcx_fares.specs.Places.{two_names}

-- when a phase starts in a lap
abbrev pub IsOpening : ℤ → Type 0
IsOpening x = (negsuc 99999999999999 ≤ℤ x) × (x ≤ℤ pos 200000000000000000000)

-- A setup or a hold is of elements of the design, and in its ranges.
pub record IsItem (design : Design) (item : Item) : Type 0 where
  pub from : item.from < element_count design
  pub to : item.to < element_count design
  pub room : IsLong item.room
  pub at : IsLeaving item.at
  pub come : IsDrawnTime item.come
  pub lap : IsLaps item.lap
  pub opens : IsOpening item.opens
  pub limit : IsDrawnTime item.limit

-- the names of the elements of a setup or a hold, where there is one
abbrev pub item_names : Design → Option Item → List (List ℕ)
item_names design (Some item) = two_names design item.from item.to
item_names design None = []

-- the names of rows
abbrev pub names_of : List Lane → List (List ℕ)
names_of lanes = map (λ (lane : Lane). lane.name) lanes

-- So many setups and holds at most, with two rows each that are called so, all in their ranges.
pub record AreFares (design : Design) (most : ℕ) (called : List (List ℕ)) (fares : Fares) : Type 0 where
  pub few : length fares.items.items ≤ most
  pub rows : length fares.lanes.items ≡ length fares.items.items + length fares.items.items
  pub items : All (IsItem design) fares.items.items
  pub lanes : All IsLane fares.lanes.items
  pub names : names_of fares.lanes.items ≡ called

-- These setups and holds with one more at most, whose rows are called so.
pub record Grows (design : Design) (called : List (List ℕ)) (old new : Fares) : Type 0 where
  pub few : length new.items.items ≤ length old.items.items + 1
  pub rows : length old.lanes.items ≡ length old.items.items + length old.items.items
      → length new.lanes.items ≡ length new.items.items + length new.items.items
  pub items : All (IsItem design) old.items.items → All (IsItem design) new.items.items
  pub lanes : All IsLane old.lanes.items → All IsLane new.lanes.items
  pub names : names_of new.lanes.items ≡ names_of old.lanes.items ++ called

-- when data comes and when it may, and how much room that leaves, in their ranges
abbrev pub IsMarked : Item → Type 0
IsMarked item = IsDrawnTime item.come × IsDrawnTime item.limit × IsLong item.room
