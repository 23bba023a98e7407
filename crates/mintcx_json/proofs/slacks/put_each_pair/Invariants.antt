use Rattle.std.proofs.Common.{◌≡◌, ◌++◌, map, take}
use Rattle.mintcx_json.specs.Pieces.{values_tokens}
use Rattle.mintcx_json.specs.Slacks.{pair_value}
use Rattle.mintcx_json.proofs.slacks.put_each_pair.Given as goal

-- the pairs so far are written
abbrev pub invariant-loop-place : goal.invariant-loop-place
invariant-loop-place l = l.sheet ≡ l.initial.sheet ++ values_tokens (map (pair_value l.system l.den) (take l.place-index l.places))
