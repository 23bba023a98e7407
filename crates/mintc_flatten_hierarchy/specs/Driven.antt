-- What drives the bits of a hierarchy.
use Rattle.std.specs.Prelude.{◌<◌, ◌≤◌, ◌+◌, ◌≢◌, ℕ, length, All}
use Rattle.std.specs.List.{AllPairs}
use Rattle.mintc_cells.specs.Rules.{inputs_of}
use Rattle.mintc_cells.specs.Entries.{cell_at}
use Rattle.mintc_flatten_hierarchy.specs.declared.hierarchy.Hierarchy.{Hierarchy}
use Rattle.mintc_flatten_hierarchy.specs.declared.hierarchy.Leaf.{Leaf}
use Rattle.mintc_flatten_hierarchy.specs.declared.hierarchy.Join.{Join}
use Rattle.mintc_flatten_hierarchy.specs.Shape.{CellTable, pin_count, IsGivenHierarchy}

-- No two joins of a hierarchy end at one bit.
abbrev pub BitsHaveOneDriver : Type 0
BitsHaveOneDriver = (cells : CellTable) (h : Hierarchy) → IsGivenHierarchy cells h →
    AllPairs (λ (a b : Join). a.to ≢ b.to) h.joins

-- an inner bit is an output pin of a leaf: the pins of its cell are first the inputs, then the outputs
abbrev pub IsOutputPin : CellTable → Leaf → ℕ → Type 0
IsOutputPin cells leaf bit = (leaf.first_pin + length (inputs_of (cell_at cells leaf.cell)) ≤ bit)
    × (bit < leaf.first_pin + pin_count cells leaf)

-- No join of a hierarchy ends at an output pin of a leaf.
abbrev pub OutputsHaveNoDriver : Type 0
OutputsHaveNoDriver = (cells : CellTable) (h : Hierarchy) → IsGivenHierarchy cells h →
    All (λ leaf. All (λ (j : Join). IsOutputPin cells leaf j.to → ⊥) h.joins) h.leaves
