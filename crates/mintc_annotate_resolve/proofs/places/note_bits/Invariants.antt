use Rattle.std.proofs.Common.{take}
use Rattle.std.specs.Option.{option_or}
use Rattle.mintc_annotate_resolve.specs.Places.{HasPlaces, place_at, among_bits}
use Rattle.mintc_annotate_resolve.proofs.places.note_bits.Given as goal

-- the bits so far are taken in
abbrev pub invariant-loop-bit : goal.invariant-loop-bit
invariant-loop-bit l = HasPlaces l.places (λ k. option_or (place_at l.fn.places k) (among_bits l.names l.port (take l.bit-index l.port.bits) k))
