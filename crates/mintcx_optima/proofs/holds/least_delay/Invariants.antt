use Rattle.std.proofs.Common.{◌≡◌, ◌*◌, pos, ◌≤ℤ◌, take}
use Rattle.mintc_timing.specs.Paths.{least_delay}
use Rattle.mintcx_optima.proofs.holds.least_delay.Given as goal

-- the sum of the arcs so far
abbrev pub invariant-loop-number : goal.invariant-loop-number
invariant-loop-number l = record {
  is : l.delay ≡ least_delay l.arcs (take l.number-index l.path);
  low : pos 0 ≤ℤ l.delay;
  high : l.delay ≤ℤ pos (l.number-index * 1000000000);
}
