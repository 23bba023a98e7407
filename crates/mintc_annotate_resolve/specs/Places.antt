-- The bits of ports by their texts.
use Rattle.std.specs.Prelude.{◌≡◌, ℕ, ◌==◌, ◌&&◌, if◌then◌else◌, List, [], length, map, find, slice_index_or, Option}
use Rattle.std.specs.Prelude.{Some, None, bytes_eq, Vec}
use Rattle.std.specs.Global.{Global}
use Rattle.std.specs.HashMap.{HashMap, get_by}
use Rattle.mintc_flatten_hierarchy.specs.declared.hierarchy.Hierarchy.{Hierarchy}
use Rattle.mintc_flatten_hierarchy.specs.declared.hierarchy.TopPort.{TopPort}
use Rattle.mintc_annotate_resolve.specs.Instances.{IsKey}
use Rattle.mintc_annotate_resolve.specs.declared.ports.PortBit.{PortBit}
use Rattle.mintc_annotate_resolve.specs.Ports.{port_bit, place_of}

-- what a map has at a text
module _ {S : Type 0} where
  abbrev pub place_at : HashMap (Vec ℕ Global) PortBit S → List ℕ → Option PortBit
  place_at m text = get_by (λ k. bytes_eq text k.items) m

  -- a map has these places
  abbrev pub HasPlaces : HashMap (Vec ℕ Global) PortBit S → (List ℕ → Option PortBit) → Type 0
  HasPlaces m places = (k : List ℕ) → IsKey k → place_at m k ≡ places k

  -- it has the places of all texts
  abbrev pub ArePlaces : Hierarchy → HashMap (Vec ℕ Global) PortBit S → Type 0
  ArePlaces h m = HasPlaces m (place_of h)

-- one place by its text
abbrev pub only : List ℕ → PortBit → List ℕ → Option PortBit
only text place k = if bytes_eq text k then Some place else None

-- the place that a port gives its whole name
abbrev pub whole_of : TopPort → List ℕ → Option PortBit
whole_of port k = if bytes_eq port.name k && (length port.bits == 1)
    then Some (port_bit port.output (slice_index_or port.bits 0 0)) else None

-- the place that some bits of a port give
abbrev pub among_bits : List (List ℕ) → TopPort → List ℕ → List ℕ → Option PortBit
among_bits names port bits k = find (λ p. bytes_eq (slice_index_or names p.bit []) k) (map (port_bit port.output) bits)
