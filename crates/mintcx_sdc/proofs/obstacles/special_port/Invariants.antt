use Rattle.std.proofs.Common.{◌≡◌, ◌-◌, length}
use Rattle.std.specs.Prelude.{find}
use Rattle.std.specs.List.{range_with_len}
use Rattle.mintcx_sdc.specs.Obstacles.{is_special_at}
use Rattle.mintcx_sdc.proofs.obstacles.special_port.Given as goal

-- it depends on the ports that are left
abbrev pub invariant-loop-at : goal.invariant-loop-at
invariant-loop-at l =
    find (is_special_at l.ports) (range_with_len l.at (length l.ports - l.at)) ≡ find (is_special_at l.ports) (range_with_len 0 (length l.ports))
