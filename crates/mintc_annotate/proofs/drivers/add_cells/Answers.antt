use Rattle.std.proofs.Common.{◌≡◌, ◌++◌, ◌∙◌, ap, subst, length, flat_map, arith, ℕ}
use Rattle.std.specs.List.{range_with_len}
use Rattle.mintc_annotate.specs.Phases.{cell_drives}
use Rattle.mintc_annotate_resolve.specs.Pins.{leaf_cell}
use Rattle.mintc_annotate.specs.Searches.{AreDrivers}
use Rattle.mintc_annotate.proofs.SearchLaws.{Adds-then, Adds-at, cells_more}
use Rattle.mintc_annotate.proofs.drivers.add_cells.Goals as goal

pub loop-number-preserved : goal.loop-number-preserved
loop-number-preserved c =
    let size = c.loop-number.invariant.0 in
    let n : ℕ = length c.args.table.now in
    let added = Adds-at (length c.loop-number.table) n c.loop-number.table c.add_cell.new.table _ size c.add_cell.ensures.added in (
      c.add_cell.ensures.size ∙ size,
      Adds-then n c.args.table.now c.loop-number.table c.add_cell.new.table _ _ _ (cells_more (λ k. cell_drives c.args.hierarchy.now k (leaf_cell c.args.hierarchy.now c.args.cells.now k)) c.loop-number.number) c.loop-number.invariant.1 added,
    )

pub returns-clause-added : goal.returns-clause-added
returns-clause-added c =
    let count : c.loop-number.number ≡ length c.args.hierarchy.now.leaves = omega (arith, c.loop-number-test.false, c.loop-number.auto.number-end, ap length c.items-number-end.ensures) in
    λ ds h. subst (λ (k : ℕ). AreDrivers (ds ++ flat_map (λ l. cell_drives c.args.hierarchy.now l (leaf_cell c.args.hierarchy.now c.args.cells.now l)) (range_with_len 0 k)) (length c.args.table.now) c.loop-number.table) count (c.loop-number.invariant.1 ds h)
