-- Bits of ports, and what they are called.
use Rattle.std.proofs.Common.{◌≡◌, ◌<◌, ◌+◌, [], ℕ, List, length, map, find, drop, get_or, slice_index_or, bytes_eq, Option, ap, ◌∙◌}
use Rattle.std.specs.Option.{option_or}
use Rattle.std.proofs.lemmas.List.{drop_more}
use Rattle.std.proofs.lemmas.List.Folds.{find-append}
use Rattle.mintc_flatten_hierarchy.specs.declared.hierarchy.TopPort.{TopPort}
use Rattle.mintc_annotate_resolve.specs.declared.ports.PortBit.{PortBit}
use Rattle.mintc_annotate_resolve.specs.Ports.{port_bit, port_bits, bit_called}

-- the bit of a port that is called so
abbrev pub bit_within : List (List ℕ) → TopPort → List ℕ → Option PortBit
bit_within names port text = find (λ p. bytes_eq (slice_index_or names p.bit []) text) (map (port_bit port.output) port.bits)

pub called_at : (names : List (List ℕ)) (ports : List TopPort) (text : List ℕ) (n : ℕ) (d : TopPort) → n < length ports →
    bit_called names (drop n ports) text ≡ option_or (bit_within names (get_or ports n d) text) (bit_called names (drop (n + 1) ports) text)
called_at names ports text n d within =
    ap (λ ps. bit_called names ps text) (drop_more ports n d within)
    ∙ find-append (λ p. bytes_eq (slice_index_or names p.bit []) text) (map (port_bit (get_or ports n d).output) (get_or ports n d).bits) (port_bits (drop (n + 1) ports))
