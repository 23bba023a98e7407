use Rattle.std.proofs.Common.{◌≡◌, ◌<◌, ℕ, sym, ◌∙◌, ap, subst, rules, position, bytes_eq, Some, length, get_or}
use Rattle.std.proofs.lemmas.List.{length-map}
use Rattle.mintc_netlist.specs.Nets.{names_of, range_of}
use Rattle.mintc_netlist_nets.specs.Tables.{NetTable}
use Rattle.mintc_netlist_nets.proofs.SharedTableLaws.{found_place, span_found}
use Rattle.mintc_netlist_nets.proofs.nets.Nets.span_at.Goals as goal

pub index-requires : goal.index-requires
index-requires c =
    let m = c.args.module_nets.now in
    let found : position (bytes_eq c.args.name.now) (names_of m) ≡ Some c.in-Some.place = sym c.requires.found ∙ c.in-Some.is in
    let count : length c.self.inside.spans.items ≡ length (names_of m) = ap (λ (t : NetTable). length t.spans) (c.self.view_is ∙ c.requires.table) ∙ length-map (names_of m) (range_of m) in
    let inside : c.in-Some.place < length c.self.inside.spans.items =
    subst (λ (n : ℕ). c.in-Some.place < n) (sym count) (found_place (bytes_eq c.args.name.now) (names_of m) c.in-Some.place found).1 in
    search rules

pub returns-in-Some : goal.returns-in-Some
returns-in-Some c =
    let m = c.args.module_nets.now in
    let found : position (bytes_eq c.args.name.now) (names_of m) ≡ Some c.in-Some.place = sym c.requires.found ∙ c.in-Some.is in
    c.index.ensures ∙ ap (λ (t : NetTable). get_or t.spans c.in-Some.place c.index.result.now) (c.self.view_is ∙ c.requires.table) ∙ span_found m c.args.name.now c.in-Some.place c.index.result.now found
