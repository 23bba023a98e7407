-- The latches and flops of a hierarchy. In the design that files give they are the first of all elements.
use Rattle.std.specs.Prelude.{ℕ, if◌then◌else◌, sum_by}
use Rattle.mintc_cells.specs.declared.cell.Cell.{Cell}
use Rattle.mintc_flatten_hierarchy.specs.declared.hierarchy.Hierarchy.{Hierarchy}
use Rattle.mintc_flatten_hierarchy.specs.Shape.{CellTable}
use Rattle.mintc_annotate_resolve.specs.Pins.{all_leaves, is_storage, leaf_cell}

-- 1 for a cell that is a latch or a flop, and 0 for another
abbrev pub storage_in : Cell → ℕ
storage_in cell = if is_storage cell then 1 else 0

-- how many leaves are latches or flops
abbrev pub storage_count : Hierarchy → CellTable → ℕ
storage_count h cells = sum_by (λ l. storage_in (leaf_cell h cells l)) (all_leaves h)
