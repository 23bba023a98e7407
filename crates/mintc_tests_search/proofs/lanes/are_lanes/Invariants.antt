use Rattle.std.proofs.Common.{ℕ, ◌*◌, ◌^◌, ◌<◌, ◌≤◌}
use Rattle.std.specs.Prelude.{unsigned_abs, IfSome}
use Rattle.mintc_lanes.specs.Lanes.{lane_at}
use Rattle.mintc_tests_search.proofs.lanes.are_lanes.Given as goal

-- the lanes so far are small enough
abbrev pub invariant-loop-lane : goal.invariant-loop-lane
invariant-loop-lane l = (k : ℕ) → k < l.lane-index → IfSome (lane_at l.row k) (λ x. unsigned_abs x ≤ 2 * 10 ^ 18)
