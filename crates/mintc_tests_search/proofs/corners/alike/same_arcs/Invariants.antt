use Rattle.std.proofs.Common.{◌≡◌, map, take}
use Rattle.mintc_timing.specs.Numbers.{undelayed}
use Rattle.mintc_tests_search.proofs.corners.alike.same_arcs.Given as goal

-- those so far are the same
abbrev pub invariant-loop-index : goal.invariant-loop-index
invariant-loop-index l = map undelayed (take l.index l.second) ≡ map undelayed (take l.index l.first)
