use Rattle.std.proofs.Common.{◌≡◌, ◌+◌, ◌++◌, drop, length}
use Rattle.std.specs.List.{flat_map}
use Rattle.mintc_timing.specs.Design.{Timing}
use Rattle.mintc_corners.specs.Lifted.{widest}
use Rattle.mintc_corners.specs.Joined.{joined, joined_links}
use Rattle.mintc_corners.proofs.joining.joint_links.Given as goal

-- the links so far and of the corners that are left, and how many elements come before these
abbrev pub invariant-loop-corner : goal.invariant-loop-corner
invariant-loop-corner l =
    (l.items.items ++ joined (widest l.systems) l.clock l.before (drop l.corner l.systems) ≡ joined_links l.systems)
    × (l.before + length (flat_map (λ (t : Timing). t.flat.elements) (drop l.corner l.systems)) ≡ length (flat_map (λ (t : Timing). t.flat.elements) l.systems))
