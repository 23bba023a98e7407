use Rattle.std.proofs.Common.{◌≡◌, ◌-◌, length}
use Rattle.std.specs.List.{range_with_len}
use Rattle.mintcx_sdc.specs.Obstacles.{first_of, phase_obstacle}
use Rattle.mintcx_sdc.proofs.obstacles.phases_obstacle.Given as goal

-- it depends on the phases that are left
abbrev pub invariant-loop-at : goal.invariant-loop-at
invariant-loop-at l =
    first_of (phase_obstacle l.phases l.schedule) (range_with_len l.at (length l.phases - l.at)) ≡ first_of (phase_obstacle l.phases l.schedule) (range_with_len 0 (length l.phases))
