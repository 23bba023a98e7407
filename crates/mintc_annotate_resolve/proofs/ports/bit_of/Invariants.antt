use Rattle.std.proofs.Common.{◌≡◌, [], drop, map, find, bytes_eq, slice_index_or}
use Rattle.mintc_annotate_resolve.specs.Ports.{port_bit}
use Rattle.mintc_annotate_resolve.proofs.ports.bit_of.Given as goal

-- it depends on the bits that are left
abbrev pub invariant-loop-bit : goal.invariant-loop-bit
invariant-loop-bit l =
    find (λ p. bytes_eq (slice_index_or l.names p.bit []) l.text) (map (port_bit l.port.output) l.port.bits)
    ≡ find (λ p. bytes_eq (slice_index_or l.names p.bit []) l.text) (map (port_bit l.port.output) (drop l.bit-index l.port.bits))
