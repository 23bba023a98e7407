-- Where a delay stands: at one instance, or at every leaf of its cell.
use Rattle.std.specs.Prelude.{◌≡◌, ◌<◌, ◌==◌, [], ℕ, List, length, filter, slice_index_or, Option, None, Some, Vec}
use Rattle.std.specs.Global.{Global}
use Rattle.mintc_sdf.specs.declared.delays.Place.{Place}
use Rattle.mintc_sdf.specs.declared.delays.Place.TheVariants.{Top, Every, Path}
use Rattle.mintc_flatten_hierarchy.specs.declared.hierarchy.Hierarchy.{Hierarchy}
use Rattle.mintc_annotate_resolve.specs.Pins.{leaf_at, all_leaves}

-- the path of the one instance of a place
abbrev pub path_of : Place → Option (List (List ℕ))
path_of Top = Some []
path_of Every = None
path_of (Path path) = Some path

-- the leaves of a cell, in their order
abbrev pub leaves_with : Hierarchy → ℕ → List ℕ
leaves_with h cell = filter (λ l. (leaf_at h l).cell == cell) (all_leaves h)

-- the leaves of each of so many cells
pub record AreGrouped (h : Hierarchy) (count : ℕ) (groups : List (Vec ℕ Global)) : Type 0 where
  pub size : length groups ≡ count
  pub each : (c : ℕ) (d : Vec ℕ Global) → c < count → (slice_index_or groups c d).items ≡ leaves_with h c
