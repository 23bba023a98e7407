use Rattle.std.proofs.Common.{◌≡◌, ◌++◌, map, take}
use Rattle.mintcx_json.specs.Chains.{arc_value}
use Rattle.mintcx_json.specs.Pieces.{values_tokens}
use Rattle.mintcx_json.proofs.chains.put_each_arc.Given as goal

-- the arcs so far are written
abbrev pub invariant-loop-number : goal.invariant-loop-number
invariant-loop-number l = l.sheet ≡ l.initial.sheet ++ values_tokens (map (arc_value l.flat l.den l.least) (take l.number-index l.path))
