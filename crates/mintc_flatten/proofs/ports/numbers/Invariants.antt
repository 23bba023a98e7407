use Rattle.std.proofs.Common.{◌≡◌, Some, map, take}
use Rattle.mintc_flatten.proofs.ports.numbers.Given as goal

-- the places so far are numbers
abbrev pub invariant-loop-place : goal.invariant-loop-place
invariant-loop-place l = map Some l.numbers.items ≡ take l.place-index l.places
