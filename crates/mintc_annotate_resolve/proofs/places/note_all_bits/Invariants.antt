use Rattle.std.proofs.Common.{take}
use Rattle.std.specs.Option.{option_or}
use Rattle.mintc_annotate_resolve.specs.Ports.{bit_called}
use Rattle.mintc_annotate_resolve.specs.Places.{HasPlaces, place_at}
use Rattle.mintc_annotate_resolve.proofs.places.note_all_bits.Given as goal

-- the ports so far are taken in
abbrev pub invariant-loop-port : goal.invariant-loop-port
invariant-loop-port l = HasPlaces l.places (λ k. option_or (place_at l.fn.places k) (bit_called l.names (take l.port-index l.ports) k))
