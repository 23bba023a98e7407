use Rattle.std.proofs.Common.{◌≡◌, ◌∷◌, map, take}
use Rattle.mintcx_chain.specs.Turning.{turned}
use Rattle.mintcx_joint.specs.Chains.{chain_cells, chain_columns, chain_head}
use Rattle.mintcx_joint.proofs.tables.chain_table.Given as goal

-- the rows of the members so far
abbrev pub invariant-loop-at : goal.invariant-loop-at
invariant-loop-at l = record {
  columns : l.table.columns ≡ chain_columns l.scale.telling;
  rows : l.table.rows ≡ chain_head l.scale.telling ∷ map (chain_cells l.scale.telling l.systems l.scale.unit) (take l.at (turned l.ring.first l.ring.members.now));
}
