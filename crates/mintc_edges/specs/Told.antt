-- What the table of all that delays say holds.
use Rattle.std.specs.Prelude.{◌≡◌, ◌<◌, ℕ, Bool, true, false, cond, nat_eq, List, [], length, slice_index_or}
use Rattle.std.specs.Prelude.{slice_set, filter, unwrap_or}
use Rattle.std.specs.HashMap.{HashMap, get}
use Rattle.mintc_cells.specs.Rules.{pins}
use Rattle.mintc_flatten_hierarchy.specs.declared.hierarchy.Hierarchy.{Hierarchy}
use Rattle.mintc_flatten_hierarchy.specs.Shape.{CellTable}
use Rattle.mintc_sdf_edges.specs.declared.delays.Edges.{Edges}
use Rattle.mintc_sdf_edges.specs.declared.delays.EdgeDelay.{EdgeDelay}
use Rattle.mintc_annotate_resolve.specs.Pins.{leaf_cell, is_storage}
use Rattle.mintc_annotate_resolve.specs.Resolution.{Target, path_on, join_into, arcs_from, dq_of, cq_of, setup_of}
use Rattle.mintc_annotate_resolve.specs.Resolution.{hold_of, width_of}
use Rattle.mintc_annotate_delays.specs.Ranges.{same_key}
use Rattle.mintc_annotate.specs.Made.{is_latch, is_flop}
use Rattle.mintc_edges.specs.declared.edge.Edge.{Edge}
use Rattle.mintc_edges.specs.declared.matters.Matter.{Matter}
use Rattle.mintc_edges.specs.declared.matters.Matter.TheVariants.{Path, Join, Port, Setup, Hold, Width}
use Rattle.mintc_edges.specs.declared.spreads.ByEdge.{ByEdge}
use Rattle.mintc_edges.specs.declared.spreads.Spread.{Spread}
use Rattle.mintc_edges.specs.declared.told.Told.{Told}
use Rattle.mintc_edges.specs.declared.told.Said.{Said}
use Rattle.mintc_edges.specs.Edges.{only, any}
use Rattle.mintc_edges.specs.Numbers.{merged_range, speaks_of, to_pin}
use Rattle.mintc_edges.specs.Spreads.{no_edges, no_spread, widened_by, widened_along, at_one, begun}

-- what a map tells of a key
module _ {S : Type 0} where
  abbrev pub path_in : HashMap (ℕ × ℕ × ℕ) Spread S → ℕ × ℕ × ℕ → Spread
  path_in m key = unwrap_or (get same_key m key) no_spread

-- what is told of the path from one pin of a leaf to another
abbrev pub path_told : Told → ℕ × ℕ × ℕ → Spread
path_told told key = path_in told.paths key

-- what a list tells of a place
abbrev pub told_at : List ByEdge → ℕ → ByEdge
told_at list place = slice_index_or list place no_edges

-- ---- what each of its parts holds of some delays

-- at each edge, of a target, what those delays say that speak of it; edges are those to which they lead
abbrev pub HasEnds : Hierarchy → CellTable → List EdgeDelay → Target → ByEdge → Type 0
HasEnds h cells ds m x = (e : Edge) → at_one x e ≡ merged_range h cells (filter (speaks_of any (only e)) ds) m

-- the same by the edges from which they lead
abbrev pub HasStarts : Hierarchy → CellTable → List EdgeDelay → Target → ByEdge → Type 0
HasStarts h cells ds m x = (e : Edge) → at_one x e ≡ merged_range h cells (filter (speaks_of (only e) any) ds) m

-- at each transition
abbrev pub HasSpread : Hierarchy → CellTable → List EdgeDelay → Target → Spread → Type 0
HasSpread h cells ds m x = (i o : Edge) →
    at_one (begun x i) o ≡ merged_range h cells (filter (speaks_of (only i) (only o)) ds) m

-- the delays of leaf l to its output pin o
abbrev pub to_output : Hierarchy → CellTable → ℕ → ℕ → List EdgeDelay → List EdgeDelay
to_output h cells l o ds = to_pin (slice_index_or (pins (leaf_cell h cells l)) o []) ds

-- The table holds what delays say: of gates by their two pins, of latches and flops by the pin and the output; of paths
-- from an enable or a clock pin, whose first edge isn't read, by the edge to which they lead.
pub record AreTold (h : Hierarchy) (cells : CellTable) (ds : List EdgeDelay) (told : Told) : Type 0 where
  pub gates : (l i o : ℕ) → is_storage (leaf_cell h cells l) ≡ false →
      HasSpread h cells ds (path_on l i o) (path_told told (l, i, o))
  pub from_data : (l o : ℕ) → is_latch (leaf_cell h cells l) ≡ true →
      HasSpread h cells (to_output h cells l o ds) (dq_of l) (path_told told (l, 0, o))
  pub from_enable : (l o : ℕ) → is_latch (leaf_cell h cells l) ≡ true → (i : Edge) →
      HasEnds h cells (to_output h cells l o ds) (cq_of l) (begun (path_told told (l, 1, o)) i)
  pub from_clock : (l o : ℕ) → is_flop (leaf_cell h cells l) ≡ true → (i : Edge) →
      HasEnds h cells (to_output h cells l o ds) (dq_of l) (begun (path_told told (l, 1, o)) i)
  pub joins : (b : ℕ) → HasEnds h cells ds (join_into b) (told_at told.joins.items b)
  pub ports : (b : ℕ) → HasEnds h cells ds (arcs_from b) (told_at told.ports.items b)
  pub setups : (l : ℕ) → HasStarts h cells ds (setup_of l) (told_at told.setups.items l)
  pub holds : (l : ℕ) → HasStarts h cells ds (hold_of l) (told_at told.holds.items l)
  pub widths : (l : ℕ) → HasEnds h cells ds (width_of l) (told_at told.widths.items l)

-- so many places of which nothing is said
pub record AreUntold (count : ℕ) (list : List ByEdge) : Type 0 where
  pub size : length list ≡ count
  pub each : (place : ℕ) → told_at list place ≡ no_edges

-- nothing is said of anything
pub record IsUntold (told : Told) : Type 0 where
  pub paths : (key : ℕ × ℕ × ℕ) → path_told told key ≡ no_spread
  pub joins : (b : ℕ) → told_at told.joins.items b ≡ no_edges
  pub ports : (b : ℕ) → told_at told.ports.items b ≡ no_edges
  pub setups : (l : ℕ) → told_at told.setups.items l ≡ no_edges
  pub holds : (l : ℕ) → told_at told.holds.items l ≡ no_edges
  pub widths : (l : ℕ) → told_at told.widths.items l ≡ no_edges

-- ---- one more delay

-- one place is widened at some edges
abbrev pub IsWidenedAt : List ByEdge → List ByEdge → ℕ → Edges → Said → Type 0
IsWidenedAt old new place edges said = new
    ≡ slice_set old place (widened_by edges said.least said.greatest (told_at old place))

-- whether a matter is the path of a key, the wire into or from a bit, or a check of a leaf
abbrev pub is_path : Matter → ℕ × ℕ × ℕ → Bool
is_path (Path leaf from to) key = same_key (leaf, from, to) key
is_path _ key = false

-- the join into a bit
abbrev pub is_join : Matter → ℕ → Bool
is_join (Join bit) b = nat_eq bit b
is_join _ b = false

-- the arcs that leave a bit of a port
abbrev pub is_port : Matter → ℕ → Bool
is_port (Port bit) b = nat_eq bit b
is_port _ b = false

-- the setup of a leaf
abbrev pub is_setup : Matter → ℕ → Bool
is_setup (Setup leaf) l = nat_eq leaf l
is_setup _ l = false

-- the hold of a leaf
abbrev pub is_hold : Matter → ℕ → Bool
is_hold (Hold leaf) l = nat_eq leaf l
is_hold _ l = false

-- the width of a leaf
abbrev pub is_width : Matter → ℕ → Bool
is_width (Width leaf) l = nat_eq leaf l
is_width _ l = false

-- what is told of one matter is widened, and of no other
pub record IsToldMore (old new : Told) (matter : Matter) (said : Said) : Type 0 where
  pub paths : (key : ℕ × ℕ × ℕ) → path_told new key ≡ cond (is_path matter key)
      (widened_along said.from said.to said.least said.greatest (path_told old key)) (path_told old key)
  pub joins : (b : ℕ) → told_at new.joins.items b ≡ cond (is_join matter b)
      (widened_by said.to said.least said.greatest (told_at old.joins.items b)) (told_at old.joins.items b)
  pub ports : (b : ℕ) → told_at new.ports.items b ≡ cond (is_port matter b)
      (widened_by said.to said.least said.greatest (told_at old.ports.items b)) (told_at old.ports.items b)
  pub setups : (l : ℕ) → told_at new.setups.items l ≡ cond (is_setup matter l)
      (widened_by said.from said.least said.greatest (told_at old.setups.items l)) (told_at old.setups.items l)
  pub holds : (l : ℕ) → told_at new.holds.items l ≡ cond (is_hold matter l)
      (widened_by said.from said.least said.greatest (told_at old.holds.items l)) (told_at old.holds.items l)
  pub widths : (l : ℕ) → told_at new.widths.items l ≡ cond (is_width matter l)
      (widened_by said.to said.least said.greatest (told_at old.widths.items l)) (told_at old.widths.items l)

-- there is a place for each bit and each leaf
pub record HasRoom (bits leaves : ℕ) (told : Told) : Type 0 where
  pub joins : length told.joins.items ≡ bits
  pub ports : length told.ports.items ≡ bits
  pub setups : length told.setups.items ≡ leaves
  pub holds : length told.holds.items ≡ leaves
  pub widths : length told.widths.items ≡ leaves

-- there are as many places as before
abbrev pub IsSameRoom : Told → Told → Type 0
IsSameRoom old new = (bits leaves : ℕ) → HasRoom bits leaves old → HasRoom bits leaves new

-- the place of a matter
abbrev pub HasPlace : Told → Matter → Type 0
HasPlace told (Path leaf from to) = Unit {0}
HasPlace told (Join bit) = bit < length told.joins.items
HasPlace told (Port bit) = bit < length told.ports.items
HasPlace told (Setup leaf) = leaf < length told.setups.items
HasPlace told (Hold leaf) = leaf < length told.holds.items
HasPlace told (Width leaf) = leaf < length told.widths.items
