use Rattle.std.proofs.Common.{◌≡◌, ◌∷◌, map}
use Rattle.std.specs.List.{range_with_len}
use Rattle.mintcx_joint.specs.Alone.{alone_cells, alone_columns, alone_head}
use Rattle.mintcx_joint.proofs.alone.alone_table.Given as goal

-- the rows of the corners so far
abbrev pub invariant-loop-corner : goal.invariant-loop-corner
invariant-loop-corner l = record {
  columns : l.table.columns ≡ alone_columns;
  rows : l.table.rows ≡ alone_head ∷ map (alone_cells l.unit l.corners.names.now l.corners.alone.now) (range_with_len 0 l.corner);
}
