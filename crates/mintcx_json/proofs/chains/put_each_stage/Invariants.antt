use Rattle.std.proofs.Common.{◌≡◌, ◌++◌, map, take}
use Rattle.mintcx_json.specs.Chains.{stage_value}
use Rattle.mintcx_json.specs.Pieces.{values_tokens}
use Rattle.mintcx_json.proofs.chains.put_each_stage.Given as goal

-- the members so far are written
abbrev pub invariant-loop-stage : goal.invariant-loop-stage
invariant-loop-stage l = l.sheet ≡ l.initial.sheet ++ values_tokens (map (stage_value l.flat l.den) (take l.stage-index l.stages))
