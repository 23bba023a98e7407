use Rattle.std.proofs.Common.{◌≡◌, ◌≤◌, ◌*◌, pos, neg_ℤ, ◌≤ℤ◌, take}
use Rattle.mintcx_chain.specs.Sums.{cycles_of, delay_of}
use Rattle.mintcx_chain.proofs.sums.sums_of.Given as goal

-- the sums over the stages so far
abbrev pub invariant-loop-stage : goal.invariant-loop-stage
invariant-loop-stage l = record {
  delay_is : l.delay ≡ delay_of (take l.stage-index l.stages);
  delay_low : neg_ℤ (pos (l.stage-index * 4000000000)) ≤ℤ l.delay;
  delay_high : l.delay ≤ℤ pos (l.stage-index * 4000000000);
  cycles_is : l.cycles ≡ cycles_of (take l.stage-index l.stages);
  cycles_high : l.cycles ≤ l.stage-index;
}
