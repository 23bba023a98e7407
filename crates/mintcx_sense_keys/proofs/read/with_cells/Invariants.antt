use Rattle.std.proofs.Common.{◌≡◌, ◌+◌, ◌++◌, map, drop, length}
use Rattle.toml.specs.View.{view, members_view}
use Rattle.mintc_cells.specs.CellsOf.{entries}
use Rattle.mintcx_sense_keys.specs.SensedCells.{with_cells}
use Rattle.mintcx_sense_keys.proofs.read.with_cells.Given as goal

-- the pairs so far, and those of the entries and the cells that are left
abbrev pub invariant-loop-value : goal.invariant-loop-value
invariant-loop-value l = (with_cells (entries (members_view l.table.entries)) l.cells
    ≡ map (λ p. (view p.0.now, p.1.now)) l.pairs.items ++ with_cells (entries (members_view l.value-iterator)) (drop (length l.pairs.items) l.cells))
    × (length l.pairs.items + length l.value-iterator ≡ length l.cells)
