use Rattle.std.proofs.Common.{◌≡◌, ◌++◌, ℕ, List, Option, Some, map, sym, ◌∙◌, ap, subst}
use Rattle.std.specs.Result.{OnOk}
use Rattle.mintc_netlist.specs.Nets.{bit_of, bits_of, indexes, range_of}
use Rattle.mintc_netlist.specs.Expressions.{piece_bits, span_from}
use Rattle.mintc_netlist_nets.specs.Tables.{bit_place, part_place}
use Rattle.mintc_netlist_nets.proofs.ExpressionLaws.{places_of, some_places, part_places, no_places}
use Rattle.mintc_netlist_nets.proofs.nets.Nets.push_piece.Goals as goal

pub returns-in-Net : goal.returns-in-Net
returns-in-Net c =
    let m = c.args.module_nets.now in
    let same : map (bit_place m) (bits_of c.bytes.result.now (range_of m c.bytes.result.now)) ≡ places_of m (piece_bits m c.args.piece.now) =
    some_places m (bits_of c.bytes.result.now (range_of m c.bytes.result.now))
    ∙ ap (λ (n : List ℕ). places_of m (map Some (bits_of n (range_of m n)))) c.bytes.ensures
    ∙ ap (λ p. places_of m (piece_bits m p)) (sym c.in-Net.is) in
    subst (λ (bits : List (Option ℕ)). OnOk c.push_net.result (c.push_net.new.places.items ≡ c.args.places.now.items ++ bits)) same c.push_net.ensures

pub returns-in-Part : goal.returns-in-Part
returns-in-Part c =
    let m = c.args.module_nets.now in
    let is = indexes (span_from c.in-Part.msb c.in-Part.lsb) in
    let same : map (part_place m c.bytes-in-Part.result.now) is ≡ places_of m (piece_bits m c.args.piece.now) =
    part_places m c.bytes-in-Part.result.now is
    ∙ ap (λ (n : List ℕ). places_of m (map Some (map (λ i. bit_of n (Some i)) is))) c.bytes-in-Part.ensures
    ∙ ap (λ p. places_of m (piece_bits m p)) (sym c.in-Part.is) in
    subst (λ (bits : List (Option ℕ)). OnOk c.push_part.result (c.push_part.new.places.items ≡ c.args.places.now.items ++ bits)) same c.push_part.ensures

pub returns-in-Constant : goal.returns-in-Constant
returns-in-Constant c =
    let m = c.args.module_nets.now in
    let same = no_places m c.in-Constant.width ∙ ap (λ p. places_of m (piece_bits m p)) (sym c.in-Constant.is) in
    subst (λ (bits : List (Option ℕ)). OnOk c.push_constant.result (c.push_constant.new.places.items ≡ c.args.places.now.items ++ bits)) same c.push_constant.ensures
