use Rattle.std.proofs.Common.{◌≤◌, ◌-◌}
use Rattle.mintcx_lint_data.specs.Back.{AreBack}
use Rattle.mintcx_lint_data.proofs.back.sources.Given as goal

-- each round takes twice the steps of the round before
abbrev pub invariant-loop-steps : goal.invariant-loop-steps
invariant-loop-steps l = record {
  some : 1 ≤ l.steps;
  back : AreBack l.joins l.steps l.bits l.found.items;
}

abbrev pub decreases-loop-steps : goal.decreases-loop-steps
decreases-loop-steps l = l.bits - l.steps
