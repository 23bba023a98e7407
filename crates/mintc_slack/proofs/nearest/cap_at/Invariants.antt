use Rattle.std.proofs.Common.{◌≡◌, ◌<◌, ◌≤ℤ◌, ℕ, List, length}
use Rattle.mintc_graph_walks.specs.Walks.{value_at}
use Rattle.mintc_slack.specs.declared.reduced_costs.ReducedCost.{ReducedCost}
use Rattle.mintc_slack.specs.Gaps.{AreShorter}
use Rattle.mintc_slack.proofs.nearest.cap_at.Given as goal

-- no node below this one is farther than the hub
abbrev pub invariant-loop-node : goal.invariant-loop-node
invariant-loop-node l = record {
  count : length l.distances.items ≡ length l.fn.distances.items;
  home : value_at l.distances.items l.hub ≡ l.home;
  below : (k : ℕ) → k < l.node → value_at l.distances.items k ≤ℤ l.home;
  shorter : (gaps : List ReducedCost) → AreShorter l.hub gaps l.fn.distances.items l.distances.items;
}
