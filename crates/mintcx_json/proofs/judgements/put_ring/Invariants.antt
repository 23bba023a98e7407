use Rattle.std.proofs.Common.{◌≡◌, ◌++◌, map, take}
use Rattle.mintcx_judgements.specs.Sources.{from_of}
use Rattle.mintcx_json.specs.Objects.{name}
use Rattle.mintcx_json.specs.Pieces.{values_tokens}
use Rattle.mintcx_json.proofs.judgements.put_ring.Given as goal

-- the names so far are written
abbrev pub invariant-loop-pair : goal.invariant-loop-pair
invariant-loop-pair l = l.sheet ≡ l.initial.sheet ++ values_tokens (map name (map (from_of l.system) (take l.pair-index l.pairs)))
