use Rattle.std.proofs.Common.{◌≡◌, ◌++◌, map}
use Rattle.std.specs.List.{range_with_len}
use Rattle.mintcx_json.specs.Corners.{alone_value}
use Rattle.mintcx_json.specs.Pieces.{values_tokens}
use Rattle.mintcx_json.proofs.corners.put_each_alone.Given as goal

-- the corners so far are written
abbrev pub invariant-loop-corner : goal.invariant-loop-corner
invariant-loop-corner l = l.sheet ≡ l.initial.sheet ++ values_tokens (map (alone_value l.corners.names.now l.corners.alone.now) (range_with_len 0 l.corner))
