use Rattle.std.proofs.Common.{◌≡◌, ◌++◌, map, take}
use Rattle.mintcx_json.specs.Judgements.{violation_value}
use Rattle.mintcx_json.specs.Pieces.{values_tokens}
use Rattle.mintcx_json.proofs.judgements.put_each_violation.Given as goal

-- the violations so far are written
abbrev pub invariant-loop-violation : goal.invariant-loop-violation
invariant-loop-violation l = l.sheet ≡ l.initial.sheet ++ values_tokens (map (violation_value l.system) (take l.violation-index l.violations))
