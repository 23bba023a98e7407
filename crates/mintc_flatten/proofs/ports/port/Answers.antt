use Rattle.std.proofs.Common.{◌≡◌, ◌++◌, ℕ, List, Option, map, ap, ◌∙◌}
use Rattle.mintc_netlist.specs.Nets.{bits_of, range_of, is_output}
use Rattle.mintc_netlist_nets.specs.Tables.{bit_place}
use Rattle.mintc_flatten.proofs.PortLaws.{numbers-are, port-is}
use Rattle.mintc_flatten.proofs.ports.port.Goals as goal

pub returns : goal.returns
returns c =
    let m = c.args.module.now in
    let name = c.args.name.now in
    let places : c.deref.result.now ≡ map (bit_place m) (bits_of name (range_of m name)) =
    c.deref.ensures.value
    ∙ c.in_ok-push_net.ensures
    ∙ ap (λ (start : List (Option ℕ)). start ++ map (bit_place m) (bits_of c.bytes.result.now (range_of m c.bytes.result.now))) c.new-places.ensures.items
    ∙ ap (λ (n : List ℕ). map (bit_place m) (bits_of n (range_of m n))) c.bytes.ensures in
    port-is m name c.in_ok-copy.field-0 c.is_output.result c.in_ok-numbers.field-0 c.in_ok-copy.ensures (c.is_output.ensures ∙ ap (is_output m) c.bytes-2.ensures)
    (numbers-are m (bits_of name (range_of m name)) c.in_ok-numbers.field-0 c.deref.result.now c.in_ok-numbers.ensures places)
