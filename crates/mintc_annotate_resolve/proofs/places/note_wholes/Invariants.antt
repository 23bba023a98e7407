use Rattle.std.proofs.Common.{take}
use Rattle.mintc_annotate_resolve.specs.Ports.{whole_port}
use Rattle.mintc_annotate_resolve.specs.Places.{HasPlaces}
use Rattle.mintc_annotate_resolve.proofs.places.note_wholes.Given as goal

-- the ports so far are taken in
abbrev pub invariant-loop-port : goal.invariant-loop-port
invariant-loop-port l = HasPlaces l.places (whole_port (take l.port-index l.ports))
