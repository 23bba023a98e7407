use Rattle.std.proofs.Common.{◌≡◌, length, take}
use Rattle.mintc_corners.specs.Joined.{StandForAll}
use Rattle.mintc_corners.proofs.chain.members.Given as goal

-- the members so far stand for the links so far
abbrev pub invariant-loop-number : goal.invariant-loop-number
invariant-loop-number l = StandForAll l.systems (take l.number-index l.chain) l.members.items × (length l.finders.items ≡ length l.systems)
