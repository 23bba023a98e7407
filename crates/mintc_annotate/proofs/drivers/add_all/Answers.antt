use Rattle.std.proofs.Common.{◌++◌, [], length, map, flat_map, ap}
use Rattle.mintc_annotate.specs.Phases.{join_drive, cell_drives}
use Rattle.mintc_annotate_resolve.specs.Pins.{all_leaves, leaf_cell}
use Rattle.mintc_annotate.proofs.SearchLaws.{Adds-then, Adds-at}
use Rattle.mintc_annotate.proofs.drivers.add_all.Goals as goal

pub returns-clause-added : goal.returns-clause-added
returns-clause-added c =
    λ h. Adds-then (length c.args.table.now) c.args.table.now c.add_joins.new.table c.add_cells.new.table _ _ _ (ap (λ js. map join_drive js ++ flat_map (λ l. cell_drives c.args.hierarchy.now l (leaf_cell c.args.hierarchy.now c.args.cells.now l)) (all_leaves c.args.hierarchy.now)) c.items.ensures) c.add_joins.ensures.added
    (Adds-at (length c.add_joins.new.table) (length c.args.table.now) c.add_joins.new.table c.add_cells.new.table _ c.add_joins.ensures.size c.add_cells.ensures.added) [] h
