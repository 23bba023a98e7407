use Rattle.std.proofs.Common.{◌≡◌, ◌+◌, ◌-◌, ◌*◌, ◌≤◌, ℕ}
use Rattle.mintc_ratio.specs.Climbing.{IsClimbing, most_halvings, most_tests, top_of}
use Rattle.mintc_ratio.proofs.searching.search_from.Given as goal

-- the search goes on, from whatever number of steps it began
abbrev pub invariant-loop-outcome : goal.invariant-loop-outcome
invariant-loop-outcome g l = record {
  climbing : (start : ℕ) → IsClimbing l.links start l.begun l.fn.room l.initial.held (top_of l.links.nodes) (most_halvings l.links.nodes) l.fn.steps →
      (halvings : ℕ) × IsClimbing l.links start l.begun l.room l.held l.high halvings l.steps;
  nodes : l.room.nodes ≡ l.fn.room.nodes;
  links : l.room.links ≡ l.fn.room.links;
  late : l.room.late ≡ l.fn.room.late;
  early : l.room.early ≡ l.fn.room.early;
  later : l.fn.steps ≤ l.steps;
}

-- the steps that are left
abbrev pub decreases-loop-outcome : goal.decreases-loop-outcome
decreases-loop-outcome g l = l.fn.steps + most_tests l.links.nodes * (l.links.nodes + 1) + 1 - l.steps
