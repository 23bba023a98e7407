use Rattle.std.proofs.Common.{◌≡◌, ◌+◌}
use Rattle.mintc_graph_walks.proofs.Rounds.{IsRound}
use Rattle.mintc_graph_walks.proofs.walks.greatest_walks.Given as goal

abbrev pub invariant-loop-round : goal.invariant-loop-round
invariant-loop-round g l = IsRound (g.N.Network.arcs l.net) l.fn.values l.round l.values l.before × (l.steps ≡ l.initial.steps + l.round) × (l.chain ≡ l.fn.chain)
