use Rattle.mintc_graph_walks.proofs.Collecting.{IsCollected}
use Rattle.mintc_graph_walks.proofs.chains.collect.Given as goal

abbrev pub invariant-loop-done : goal.invariant-loop-done
invariant-loop-done g l = IsCollected (g.N.Network.arcs l.net) l.before l.marks l.fn.ring.node l.fn.ring.len l.done l.chain l.node
