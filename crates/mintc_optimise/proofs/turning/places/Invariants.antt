use Rattle.mintc_optimise.specs.Beginning.{ArePlaces}
use Rattle.mintc_optimise.proofs.turning.places.Given as goal

-- the links so far have their places
abbrev pub invariant-loop-place : goal.invariant-loop-place
invariant-loop-place l = ArePlaces l.nodes l.links l.chain l.place l.places.items
