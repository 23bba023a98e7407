use Rattle.std.proofs.Common.{◌≡◌, ◌++◌}
use Rattle.mintc_sample.specs.Samples.{ring_text}
use Rattle.mintc_sample.proofs.ring.put_ring.Given as goal

-- the lines of the places so far
abbrev pub invariant-loop-latch : goal.invariant-loop-latch
invariant-loop-latch l = l.lines ≡ l.initial.lines ++ ring_text l.latch
