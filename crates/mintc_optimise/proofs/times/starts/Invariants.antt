use Rattle.mintc_graph_walks.specs.Walks.{value_at}
use Rattle.mintc_timing.specs.Limits.{IsNumerator}
use Rattle.mintc_timing.specs.Links.{start_node}
use Rattle.mintc_optimise.proofs.TimesLaws.{AreSaid}
use Rattle.mintc_optimise.proofs.times.starts.Given as goal

-- the starts so far
abbrev pub invariant-loop-index : goal.invariant-loop-index
invariant-loop-index l = AreSaid IsNumerator (λ p. value_at l.values (start_node p)) 1 l.index l.starts.items
