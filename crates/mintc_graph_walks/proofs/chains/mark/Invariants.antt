use Rattle.mintc_graph_walks.proofs.Marking.{IsMarked}
use Rattle.mintc_graph_walks.proofs.chains.mark.Given as goal

abbrev pub invariant-loop-step : goal.invariant-loop-step
invariant-loop-step g l = IsMarked (g.N.Network.arcs l.net) l.before l.last l.step l.marks l.node
