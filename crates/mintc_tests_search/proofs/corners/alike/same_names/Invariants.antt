use Rattle.std.proofs.Common.{◌≡◌, take}
use Rattle.mintc_tests_search.proofs.corners.alike.same_names.Given as goal

-- those so far are the same
abbrev pub invariant-loop-index : goal.invariant-loop-index
invariant-loop-index l = take l.index l.second ≡ take l.index l.first
