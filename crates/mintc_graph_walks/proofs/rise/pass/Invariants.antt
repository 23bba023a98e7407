use Rattle.mintc_graph_walks.specs.Rises.{HasTaken, turn}
use Rattle.mintc_graph_walks.proofs.rise.pass.Given as goal

abbrev pub invariant-loop-count : goal.invariant-loop-count
invariant-loop-count g l = HasTaken (g.N.Network.arcs l.net) (turn l.direction l.len) l.count l.initial.values l.initial.before l.values l.before l.raised
