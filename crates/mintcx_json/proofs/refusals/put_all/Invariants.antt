use Rattle.std.proofs.Common.{◌≡◌, ◌++◌, map, take}
use Rattle.mintcx_json.specs.Objects.{count}
use Rattle.mintcx_json.specs.Pieces.{values_tokens}
use Rattle.mintcx_json.proofs.refusals.put_all.Given as goal

-- the counts so far are written
abbrev pub invariant-loop-number : goal.invariant-loop-number
invariant-loop-number l = l.sheet ≡ l.initial.sheet ++ values_tokens (map count (take l.number-index l.numbers))
