use Rattle.std.proofs.Common.{◌≡◌, map, take}
use Rattle.mintc_timing.specs.Numbers.{unnumbered}
use Rattle.mintc_tests_search.proofs.corners.alike.same_elements.Given as goal

-- those so far are the same
abbrev pub invariant-loop-index : goal.invariant-loop-index
invariant-loop-index l = map unnumbered (take l.index l.second) ≡ map unnumbered (take l.index l.first)
