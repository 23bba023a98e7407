-- What is known of every hierarchy, whatever netlist it is of.
use Rattle.std.specs.Prelude.{◌<◌, ◌≤◌, ◌+◌, ℕ, List, length, slice_index_or, All, Option}
use Rattle.mintc_text.specs.Limits.{AreLimits}
use Rattle.mintc_text.specs.declared.limits.Most.{Most}
use Rattle.mintc_text.specs.declared.limits.TheConstants.{MOST_INNER, MOST_LEAVES, MOST_SCOPES}
use Rattle.mintc_cells.specs.declared.cell.Cell.{Cell}
use Rattle.mintc_cells.specs.Rules.{pins}
use Rattle.mintc_cells.specs.Entries.{cell_at}
use Rattle.mintc_netlist.specs.declared.module.Netlist.{Netlist}
use Rattle.mintc_netlist.specs.Ordinary.{IsOrdinary}
use Rattle.mintc_flatten_hierarchy.specs.declared.hierarchy.Hierarchy.{Hierarchy}
use Rattle.mintc_flatten_hierarchy.specs.declared.hierarchy.Scope.{Scope}
use Rattle.mintc_flatten_hierarchy.specs.declared.hierarchy.Inner.{Inner}
use Rattle.mintc_flatten_hierarchy.specs.declared.hierarchy.Inner.TheVariants.{Net, Pin}
use Rattle.mintc_flatten_hierarchy.specs.declared.hierarchy.Leaf.{Leaf}
use Rattle.mintc_flatten_hierarchy.specs.declared.hierarchy.Join.{Join}
use Rattle.mintc_flatten_hierarchy.specs.declared.hierarchy.TopPort.{TopPort}
use Rattle.mintc_flatten_hierarchy.specs.Sources.{source_of}
use Rattle.mintc_flatten_hierarchy.specs.Refusals.{IsHierarchy}

-- cells, each by its name
abbrev pub CellTable : Type 0
CellTable = List (List ℕ × Cell)

-- how many pins a leaf has
abbrev pub pin_count : CellTable → Leaf → ℕ
pin_count cells leaf = length (pins (cell_at cells leaf.cell))

-- a leaf's scope and cell are there, and its pins are inner bits
pub record IsLeaf (cells : CellTable) (h : Hierarchy) (leaf : Leaf) : Type 0 where
  pub scope : leaf.scope < length h.scopes
  pub cell : leaf.cell < length cells
  pub within : leaf.first_pin + pin_count cells leaf ≤ length h.inner

-- a port has a bit, and its bits are inner bits
pub record IsPort (h : Hierarchy) (port : TopPort) : Type 0 where
  pub within : All (λ b. b < length h.inner) port.bits
  pub some : 1 ≤ length port.bits

-- an inner bit is that of a net of a scope, or a pin of a leaf, which are there
abbrev pub IsInner : Hierarchy → Inner → Type 0
IsInner h (Net scope name index) = scope < length h.scopes
IsInner h (Pin leaf pin) = leaf < length h.leaves

-- both ends of a join are inner bits
abbrev pub IsJoin : Hierarchy → Join → Type 0
IsJoin h j = (j.from < length h.inner) × (j.to < length h.inner)

-- Whatever a hierarchy names is there, each scope comes after its parent, and the limits of what can be worked on are
-- kept.
pub record IsFlattened (cells : CellTable) (h : Hierarchy) : Type 0 where
  pub some_scope : 1 ≤ length h.scopes
  pub few_scopes : length h.scopes ≤ MOST_SCOPES
  pub parents : (s : ℕ) (d : Scope) → 1 ≤ s → s < length h.scopes → (slice_index_or h.scopes s d).parent < s
  pub few_leaves : length h.leaves ≤ MOST_LEAVES
  pub each_leaf : All (IsLeaf cells h) h.leaves
  pub each_inner : All (IsInner h) h.inner
  pub few_bits : length h.inner ≤ MOST_INNER
  pub each_join : All (IsJoin h) h.joins
  pub each_port : All (IsPort h) h.ports

-- Some ordinary netlist has this hierarchy over these cells, in a run with some limits.
abbrev pub IsGivenHierarchy : CellTable → Hierarchy → Type 0
IsGivenHierarchy cells h =
    (most : Most) × (netlist : Netlist) × (top : Option (List ℕ)) × AreLimits most × IsOrdinary netlist
    × IsHierarchy most (source_of cells netlist.modules) top h

-- Such a hierarchy is in shape.
abbrev pub HierarchiesAreInShape : Type 0
HierarchiesAreInShape = (cells : CellTable) (h : Hierarchy) → IsGivenHierarchy cells h → IsFlattened cells h
