use Rattle.std.proofs.Common.{◌≡◌, ◌∷◌, map}
use Rattle.std.specs.List.{range_with_len}
use Rattle.mintcx_optima.specs.Tables.{chain_cells, chain_columns, chain_head}
use Rattle.mintcx_optima.proofs.tables.chain_table.Given as goal

-- the rows so far
abbrev pub invariant-loop-number : goal.invariant-loop-number
invariant-loop-number l = record {
  columns : l.table.columns ≡ chain_columns;
  rows : l.table.rows ≡ chain_head ∷ map (chain_cells l.flat l.scale.unit l.scale.den l.stages l.rows) (range_with_len 0 l.number);
}
