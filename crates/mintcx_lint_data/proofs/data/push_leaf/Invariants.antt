use Rattle.std.proofs.Common.{◌≡◌, ◌++◌, flat_map}
use Rattle.std.specs.List.{range_with_len}
use Rattle.mintcx_lint_data.specs.Data.{path_at}
use Rattle.mintcx_lint_data.proofs.data.push_leaf.Given as goal

-- the paths to the pins so far
abbrev pub invariant-loop-pin : goal.invariant-loop-pin
invariant-loop-pin l = l.paths.items ≡ l.fn.paths.items ++ flat_map (path_at l.hierarchy l.cells l.sources l.leaf) (range_with_len 0 l.pin)
