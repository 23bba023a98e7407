use Rattle.std.proofs.Common.{◌<◌, length}
use Rattle.mintc_graph_walks.proofs.trees.list_back.Given as goal

abbrev pub invariant-loop-place : goal.invariant-loop-place
invariant-loop-place g l = l.node < length l.before
