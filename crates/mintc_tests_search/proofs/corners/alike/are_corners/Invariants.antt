use Rattle.std.proofs.Common.{◌≤◌, ◌*◌, length, take}
use Rattle.std.specs.List.{flat_map}
use Rattle.mintc_timing.specs.Design.{Timing}
use Rattle.mintc_corners.specs.Joint.{AreCorners}
use Rattle.mintc_tests_search.proofs.corners.alike.are_corners.Given as goal

-- the systems so far, if there is one, differ in numbers alone and are small
abbrev pub invariant-loop-index : goal.invariant-loop-index
invariant-loop-index l =
    (1 ≤ l.index → AreCorners (take l.index l.systems)) × (length (flat_map (λ (t : Timing). t.flat.elements) (take l.index l.systems)) ≤ l.index * 500)
