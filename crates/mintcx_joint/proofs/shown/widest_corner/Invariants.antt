use Rattle.std.proofs.Common.{◌≡◌, ◌<◌, length}
use Rattle.std.specs.List.{fold, range_with_len}
use Rattle.mintcx_joint.specs.Shown.{wider}
use Rattle.mintcx_joint.proofs.shown.widest_corner.Given as goal

-- the widest of the corners so far
abbrev pub invariant-loop-corner : goal.invariant-loop-corner
invariant-loop-corner l = record {
  is : l.widest ≡ fold (wider l.systems l.phase) 0 (range_with_len 0 l.corner);
  there : l.widest < length l.systems;
}
