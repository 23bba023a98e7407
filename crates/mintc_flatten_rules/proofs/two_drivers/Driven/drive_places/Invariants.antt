use Rattle.std.proofs.Common.{false, take}
use Rattle.mintc_flatten_rules.specs.Driving.{Drives}
use Rattle.mintc_flatten_rules.proofs.DriveLaws.{driven_places}
use Rattle.mintc_flatten_rules.proofs.two_drivers.Driven.drive_places.Given as goal

-- the places so far are driven
abbrev pub invariant-loop-place : goal.invariant-loop-place
invariant-loop-place l = Drives l.initial.self l.self (driven_places (take l.place-index l.places)) false
