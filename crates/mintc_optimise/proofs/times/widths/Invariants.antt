use Rattle.std.proofs.Common.{◌-ℤ◌}
use Rattle.mintc_graph_walks.specs.Walks.{value_at}
use Rattle.mintc_timing.specs.Limits.{IsNumerator}
use Rattle.mintc_timing.specs.Links.{end_node, start_node}
use Rattle.mintc_optimise.proofs.TimesLaws.{AreSaid}
use Rattle.mintc_optimise.proofs.times.widths.Given as goal

-- the widths so far
abbrev pub invariant-loop-index : goal.invariant-loop-index
invariant-loop-index l = AreSaid IsNumerator (λ p. value_at l.values (end_node p) -ℤ value_at l.values (start_node p)) 1 l.index l.widths.items
