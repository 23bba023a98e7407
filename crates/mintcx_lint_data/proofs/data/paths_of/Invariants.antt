use Rattle.std.proofs.Common.{◌≡◌, flat_map}
use Rattle.std.specs.List.{range_with_len}
use Rattle.mintcx_lint_data.specs.Data.{leaf_paths}
use Rattle.mintcx_lint_data.proofs.data.paths_of.Given as goal

-- the paths to the leaves so far
abbrev pub invariant-loop-leaf : goal.invariant-loop-leaf
invariant-loop-leaf l = l.paths.items ≡ flat_map (leaf_paths l.hierarchy l.cells l.sources) (range_with_len 0 l.leaf)
