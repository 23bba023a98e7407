use Rattle.std.proofs.Common.{◌<◌, length}
use Rattle.mintc_graph_walks.proofs.rings.follow.Given as goal

abbrev pub invariant-loop-step : goal.invariant-loop-step
invariant-loop-step g l = l.node < length l.before
