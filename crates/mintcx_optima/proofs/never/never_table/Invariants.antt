use Rattle.std.proofs.Common.{◌≡◌, ◌∷◌, map, take}
use Rattle.mintcx_optima.specs.Never.{never_cells, never_columns, never_head}
use Rattle.mintcx_optima.proofs.never.never_table.Given as goal

-- the rows of the stages so far
abbrev pub invariant-loop-stage : goal.invariant-loop-stage
invariant-loop-stage l = record {
  columns : l.table.columns ≡ never_columns;
  rows : l.table.rows ≡ never_head ∷ map (never_cells l.flat l.unit) (take l.stage-index l.stages);
}
