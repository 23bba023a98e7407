use Rattle.std.proofs.Common.{◌≡◌, ◌++◌, map}
use Rattle.std.specs.List.{range_with_len}
use Rattle.mintcx_json.specs.Clocks.{phase_value}
use Rattle.mintcx_json.specs.Pieces.{values_tokens}
use Rattle.mintcx_json.proofs.clocks.put_each_phase.Given as goal

-- the phases so far are written
abbrev pub invariant-loop-at : goal.invariant-loop-at
invariant-loop-at l = l.sheet ≡ l.initial.sheet ++ values_tokens (map (phase_value l.flat l.schedule) (range_with_len 1 l.at))
