use Rattle.std.proofs.Common.{◌≡◌, ◌∷◌, map, take}
use Rattle.mintcx_optima.specs.Cycles.{short_cells, short_columns, short_head}
use Rattle.mintcx_optima.proofs.short.short_table.Given as goal

-- the rows of the stages so far
abbrev pub invariant-loop-stage : goal.invariant-loop-stage
invariant-loop-stage l = record {
  columns : l.table.columns ≡ short_columns;
  rows : l.table.rows ≡ short_head ∷ map (short_cells l.flat l.unit) (take l.stage-index l.stages);
}
