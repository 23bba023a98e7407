use Rattle.std.proofs.Common.{◌≡◌, ◌++◌, ℕ, List, Option, Some, map, sym, ◌∙◌, ap, subst}
use Rattle.std.specs.Result.{OnOk}
use Rattle.std.proofs.lemmas.Simd.{map-map}
use Rattle.mintc_netlist.specs.declared.expression.Span.{Span}
use Rattle.mintc_netlist.specs.Nets.{bit_of, bits_of, indexes, range_of}
use Rattle.mintc_netlist_nets.specs.Tables.{bit_place, part_place}
use Rattle.mintc_netlist_nets.proofs.nets.Nets.push_net.Goals as goal

pub returns-in-Some : goal.returns-in-Some
returns-in-Some c =
    let m = c.args.module_nets.now in
    let name = c.args.name.now in
    let same : map (part_place m name) (indexes c.in-Some.part) ≡ map (bit_place m) (bits_of name (range_of m name)) =
    sym (map-map (bit_place m) (λ i. bit_of name (Some i)) (indexes c.in-Some.part)) ∙ ap (λ (span : Option Span). map (bit_place m) (bits_of name span)) (sym c.in-Some.is ∙ c.span_at-span.ensures) in
    subst (λ (bits : List (Option ℕ)). OnOk c.push_part.result (c.push_part.new.places.items ≡ c.args.places.now.items ++ bits)) same c.push_part.ensures
