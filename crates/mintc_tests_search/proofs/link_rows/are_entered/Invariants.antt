use Rattle.std.proofs.Common.{ℕ, ◌<◌, List}
use Rattle.mintc_constraints.specs.Ordinary.{Leads}
use Rattle.mintc_tests_search.proofs.link_rows.are_entered.Given as goal

abbrev pub invariant-loop-node : goal.invariant-loop-node
invariant-loop-node l = (node : ℕ) → node < l.node → (walk : List ℕ) × Leads l.links 0 walk node
