use Rattle.std.proofs.Common.{◌≡◌, pos, ◌≤ℤ◌, take}
use Rattle.mintcx_optima.specs.Never.{greatest_delay}
use Rattle.mintcx_joint.proofs.never.greatest_delay.Given as goal

-- the greatest delay so far
abbrev pub invariant-loop-stage : goal.invariant-loop-stage
invariant-loop-stage l = record {
  is : l.greatest ≡ greatest_delay (take l.stage-index l.stages);
  least : pos 0 ≤ℤ l.greatest;
  most : l.greatest ≤ℤ pos 4000000000;
}
