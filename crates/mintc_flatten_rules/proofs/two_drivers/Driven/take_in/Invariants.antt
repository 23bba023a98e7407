use Rattle.std.proofs.Common.{take}
use Rattle.mintc_flatten_rules.specs.Driving.{TakesIn}
use Rattle.mintc_flatten_rules.proofs.DriveLaws.{driven_places}
use Rattle.mintc_flatten_rules.proofs.two_drivers.Driven.take_in.Given as goal

-- the places so far are taken in
abbrev pub invariant-loop-place : goal.invariant-loop-place
invariant-loop-place l = TakesIn l.initial.self l.self (driven_places (take l.place-index l.places))
