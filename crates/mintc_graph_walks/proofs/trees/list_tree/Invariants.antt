use Rattle.std.proofs.Common.{◌≤◌, length}
use Rattle.mintc_graph_walks.proofs.trees.list_tree.Given as goal

abbrev pub invariant-loop-node : goal.invariant-loop-node
invariant-loop-node g l = l.count ≤ length l.before
