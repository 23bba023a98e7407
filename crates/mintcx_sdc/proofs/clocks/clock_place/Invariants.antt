use Rattle.std.proofs.Common.{◌≡◌, ◌-◌, length}
use Rattle.std.specs.Prelude.{find}
use Rattle.std.specs.List.{range_with_len}
use Rattle.mintcx_sdc.specs.Clocks.{is_high_at}
use Rattle.mintcx_sdc.proofs.clocks.clock_place.Given as goal

-- it depends on the places that are left
abbrev pub invariant-loop-place : goal.invariant-loop-place
invariant-loop-place l =
    find (is_high_at l.phases l.port) (range_with_len l.place (length l.phases - l.place)) ≡ find (is_high_at l.phases l.port) (range_with_len 0 (length l.phases))
