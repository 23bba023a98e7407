-- Places that all are there.
use Rattle.std.proofs.Common.{◌≡◌, ℕ, List, [], ◌∷◌, map, Bool, Option, Some, refl, sym, ap, ◌∙◌}
use Rattle.std.specs.List.{filter_map}
use Rattle.std.proofs.lemmas.Simd.{map-map}
use Rattle.mintc_netlist.specs.declared.module.Module.{Module}
use Rattle.mintc_netlist.specs.Nets.{Bit, bits_of, range_of, is_output, place_of}
use Rattle.mintc_netlist.specs.Connections.{port_of}
use Rattle.mintc_flatten_hierarchy.specs.declared.hierarchy.TopPort.{TopPort}
use Rattle.mintc_flatten_hierarchy.specs.Hierarchies.{top_port}
use Rattle.mintc_netlist_nets.specs.Tables.{bit_place}

-- what is there among some options
abbrev there : List (Option ℕ) → List ℕ
there places = filter_map (λ place. place) places

there-some : (ns : List ℕ) → there (map Some ns) ≡ ns
there-some [] = refl
there-some (n ∷ ns) = ap (λ (rest : List ℕ). n ∷ rest) (there-some ns)

-- numbers that are the places of some bits
pub numbers-are : (m : Module) (bits : List Bit) (numbers : List ℕ) (places : List (Option ℕ)) → map Some numbers ≡ places → places ≡ map (bit_place m) bits → numbers ≡ map (place_of m) bits
numbers-are m bits numbers places given is =
    sym (there-some numbers)
    ∙ ap there (given ∙ is ∙ sym (map-map Some (place_of m) bits))
    ∙ there-some (map (place_of m) bits)

-- a port by its parts
abbrev top_of : List ℕ → Bool → List ℕ → TopPort
top_of name output bits = record { name = name; output = output; bits = bits }

pub port-is : (m : Module) (name own : List ℕ) (output : Bool) (numbers : List ℕ) → own ≡ name → output ≡ is_output m name → numbers ≡ map (place_of m) (bits_of name (range_of m name)) →
    top_of own output numbers ≡ top_port (port_of m name)
port-is m name own output numbers n o b = ap (λ x. top_of x output numbers) n ∙ ap (λ x. top_of name x numbers) o ∙ ap (top_of name (is_output m name)) b
