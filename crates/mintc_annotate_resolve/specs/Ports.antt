-- The ports of the top, by what they are called.
use Rattle.std.specs.Prelude.{◌<◌, ℕ, ◌==◌, Bool, ◌&&◌, if◌then◌else◌, List, [], map, length, slice_index_or, flat_map}
use Rattle.std.specs.Prelude.{find, Option, Some, None, option_map, bytes_eq, All}
use Rattle.std.specs.Option.{option_or}
use Rattle.mintc_flatten_hierarchy.specs.declared.hierarchy.Hierarchy.{Hierarchy}
use Rattle.mintc_flatten_hierarchy.specs.declared.hierarchy.TopPort.{TopPort}
use Rattle.mintc_annotate_resolve.specs.declared.ports.PortBit.{PortBit}
use Rattle.mintc_annotate_resolve.specs.Pins.{all_names}

-- a bit of a port of the top, and whether that is an output
abbrev pub port_bit : Bool → ℕ → PortBit
port_bit output bit = record { output = output; bit = bit }

-- all bits of all ports
abbrev pub port_bits : List TopPort → List PortBit
port_bits ports = flat_map (λ p. map (port_bit p.output) p.bits) ports

-- A text names a one-bit port of that whole name; else the bit of a vector that is called so, as `name[i]`.
abbrev pub whole_port : List TopPort → List ℕ → Option PortBit
whole_port ports text = option_map (λ p. port_bit p.output (slice_index_or p.bits 0 0))
    (find (λ p. bytes_eq p.name text && (length p.bits == 1)) ports)

-- the first bit of a port that is called so
abbrev pub bit_called : List (List ℕ) → List TopPort → List ℕ → Option PortBit
bit_called names ports text = find (λ p. bytes_eq (slice_index_or names p.bit []) text) (port_bits ports)

-- the bit that a text names among ports, whose bits have these names
abbrev pub place_in : List (List ℕ) → List TopPort → List ℕ → Option PortBit
place_in names ports text = option_or (whole_port ports text) (bit_called names ports text)

-- the bit of a port of the top that a text names
abbrev pub place_of : Hierarchy → List ℕ → Option PortBit
place_of h text = place_in (all_names h) h.ports text

-- the bits of ports are among so many
abbrev pub AreInside : ℕ → List TopPort → Type 0
AreInside count ports = All (λ p. All (λ b. b < count) p.bits) ports

-- the bit of a place, where that is of an input
abbrev pub if_input : Option PortBit → Option ℕ
if_input None = None
if_input (Some p) = if p.output then None else Some p.bit
