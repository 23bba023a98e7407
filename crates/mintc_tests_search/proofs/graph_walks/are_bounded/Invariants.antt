use Rattle.std.proofs.Common.{ℕ, ◌<◌, ◌^◌, ◌≤ℤ◌, ◌<ℤ◌}
use Rattle.mintc_graph_walks.specs.declared.network.TheConstants.{UNREACHED}
use Rattle.mintc_graph_walks.specs.Bounds.{IsWithin}
use Rattle.mintc_graph_walks.specs.Walks.{value_at}
use Rattle.mintc_tests_search.proofs.graph_walks.are_bounded.Given as goal

abbrev pub invariant-loop-start : goal.invariant-loop-start
invariant-loop-start l = (v : ℕ) → v < l.start-index → (UNREACHED ≤ℤ value_at l.starts v) × (UNREACHED <ℤ value_at l.starts v → IsWithin (2 ^ 80) (value_at l.starts v))
