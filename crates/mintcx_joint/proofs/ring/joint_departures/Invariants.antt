use Rattle.std.proofs.Common.{◌≡◌, take}
use Rattle.mintcx_joint.specs.Shown.{joint_departures}
use Rattle.mintcx_joint.proofs.ring.joint_departures.Given as goal

-- the departures of the corners so far
abbrev pub invariant-loop-own : goal.invariant-loop-own
invariant-loop-own l = l.all.items ≡ joint_departures (take l.own-index l.departures)
