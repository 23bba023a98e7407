use Rattle.std.proofs.Common.{◌≡◌, pos, ◌≤ℤ◌, drop}
use Rattle.std.specs.Int.{int_max}
use Rattle.mintc_corners.specs.Lifted.{widest}
use Rattle.mintc_corners.proofs.joint_links.width_of_all.Given as goal

-- the greatest so far and of what is left is that of all
abbrev pub invariant-loop-system : goal.invariant-loop-system
invariant-loop-system l = (pos 0 ≤ℤ l.width) × (int_max l.width (widest (drop l.system-index l.systems) l.phase) ≡ widest l.systems l.phase)
