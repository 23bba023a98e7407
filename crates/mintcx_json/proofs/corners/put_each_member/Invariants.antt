use Rattle.std.proofs.Common.{◌≡◌, ◌++◌, map, take}
use Rattle.mintcx_chain.specs.Turning.{turned}
use Rattle.mintcx_json.specs.Corners.{member_value}
use Rattle.mintcx_json.specs.Pieces.{values_tokens}
use Rattle.mintcx_json.proofs.corners.put_each_member.Given as goal

-- the members so far are written
abbrev pub invariant-loop-at : goal.invariant-loop-at
invariant-loop-at l = l.sheet ≡ l.initial.sheet ++ values_tokens (map (member_value l.systems l.den) (take l.at (turned l.ring.first l.ring.members.now)))
