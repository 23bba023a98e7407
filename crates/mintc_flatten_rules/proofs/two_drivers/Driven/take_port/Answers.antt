use Rattle.std.proofs.Common.{◌≡◌, ◌++◌, ℕ, List, Option, false, nat_eq, [], cond, map, ap, sym, ◌∙◌}
use Rattle.std.specs.List.{list_any}
use Rattle.mintc_netlist.specs.Nets.{bits_of, range_of, place_of, is_output}
use Rattle.mintc_netlist_nets.specs.Tables.{bit_place}
use Rattle.mintc_flatten_rules.proofs.DriveLaws.{driven_places, port_places}
use Rattle.mintc_flatten_rules.proofs.two_drivers.Driven.take_port.Goals as goal

pub returns : goal.returns
returns c = λ place.
    let m = c.args.module_nets.now.part.now in
    let name = c.args.name.now in
    let bits = bits_of name (range_of m name) in
    let room : c.deref.result.now ≡ map (bit_place m) bits =
    c.deref.ensures.value
    ∙ c.in_ok-push_net.ensures
    ∙ ap (λ (l : List (Option ℕ)). l ++ map (bit_place m) (bits_of c.bytes-2.result.now (range_of m c.bytes-2.result.now))) c.clear.ensures.items
    ∙ ap (λ (n : List ℕ). map (bit_place m) (bits_of n (range_of m n))) c.bytes-2.ensures in
    let input : is_output m name ≡ false = ap (is_output m) (sym c.bytes.ensures) ∙ sym c.is_output.ensures ∙ c.if-is_output.false in
    c.in_ok-take_in.ensures place
    ∙ ap (λ (l : List (Option ℕ)). list_any (nat_eq place) (c.args.self.now ++ driven_places l)) room
    ∙ ap (λ (l : List ℕ). list_any (nat_eq place) (c.args.self.now ++ l)) (port_places m bits ∙ sym (ap (λ b. cond b [] (map (place_of m) bits)) input))
