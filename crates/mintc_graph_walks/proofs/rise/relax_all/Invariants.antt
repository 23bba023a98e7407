use Rattle.mintc_graph_walks.specs.Rises.{HasRelaxed}
use Rattle.mintc_graph_walks.proofs.rise.relax_all.Given as goal

abbrev pub invariant-loop-number : goal.invariant-loop-number
invariant-loop-number g l = HasRelaxed (g.N.Network.arcs l.net) l.number-index l.initial.values l.initial.before l.values l.before
