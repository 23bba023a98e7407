use Rattle.std.proofs.Common.{◌≡◌, ◌+◌, ◌<◌, ℕ, sym, ◌∙◌, ap, subst, arith, rules, position, bytes_eq, Some, length, get_or}
use Rattle.mintc_netlist.specs.Nets.{names_of, nets_of, range_of}
use Rattle.mintc_netlist_nets.specs.Tables.{NetTable, firsts_from, offset_of}
use Rattle.mintc_netlist_nets.proofs.SharedTableLaws.{firsts_count, found_place, place-bit, place-no_bit, place-no_net, place-within}
use Rattle.mintc_netlist_nets.proofs.nets.Nets.net_place.Goals as goal

pub index-requires : goal.index-requires
index-requires c =
    let m = c.args.module_nets.now in
    let found : position (bytes_eq c.args.name.now) (names_of m) ≡ Some c.in-Some.place = sym c.requires.found ∙ c.in-Some.is in
    let count : length c.self.inside.firsts.items ≡ length (names_of m) = ap (λ (t : NetTable). length t.firsts) (c.self.view_is ∙ c.requires.table) ∙ firsts_count m 0 (names_of m) in
    let inside : c.in-Some.place < length c.self.inside.firsts.items =
    subst (λ (n : ℕ). c.in-Some.place < n) (sym count) (found_place (bytes_eq c.args.name.now) (names_of m) c.in-Some.place found).1 in
    search rules

pub overflow_add-result : goal.overflow_add-result
overflow_add-result c =
    let is = c.self.view_is ∙ c.requires.table in
    let m = c.args.module_nets.now in
    let found : position (bytes_eq c.args.name.now) (names_of m) ≡ Some c.in-Some.place = sym c.requires.found ∙ c.in-Some.is in
    let offset : offset_of (range_of m c.args.name.now) c.args.index ≡ Some c.in-Some-offset.at = ap (λ span. offset_of span c.args.index) (sym c.requires.span) ∙ sym c.offset.ensures.value ∙ c.in-Some-offset.is in
    let within = place-within m c.args.name.now c.args.index c.in-Some.place c.in-Some-offset.at c.index.result.now found offset in
    let first : c.index.result.now ≡ get_or (firsts_from m 0 (names_of m)) c.in-Some.place c.index.result.now = c.index.ensures ∙ ap (λ (t : NetTable). get_or t.firsts c.in-Some.place c.index.result.now) is in
    let all : c.self.inside.count ≡ length (nets_of m) = ap (λ (t : NetTable). t.count) is in
    let below : c.index.result.now + c.in-Some-offset.at < c.self.inside.count = omega (arith, within, first, all) in
    search rules

pub returns-in-Some-offset : goal.returns-in-Some-offset
returns-in-Some-offset c =
    let m = c.args.module_nets.now in
    let found : position (bytes_eq c.args.name.now) (names_of m) ≡ Some c.in-Some.place = sym c.requires.found ∙ c.in-Some.is in
    let offset : offset_of (range_of m c.args.name.now) c.args.index ≡ Some c.in-Some-offset.at = ap (λ span. offset_of span c.args.index) (sym c.requires.span) ∙ sym c.offset.ensures.value ∙ c.in-Some-offset.is in
    let first : c.index.result.now ≡ get_or (firsts_from m 0 (names_of m)) c.in-Some.place c.index.result.now =
    c.index.ensures ∙ ap (λ (t : NetTable). get_or t.firsts c.in-Some.place c.index.result.now) (c.self.view_is ∙ c.requires.table) in
    ap (λ (n : ℕ). n + c.in-Some-offset.at) first ∙ place-bit m c.args.name.now c.args.index c.in-Some.place c.in-Some-offset.at c.index.result.now found offset

pub returns-in-None-offset : goal.returns-in-None-offset
returns-in-None-offset c =
    ap (λ (t : NetTable). t.count) (c.self.view_is ∙ c.requires.table)
    ∙ place-no_bit c.args.module_nets.now c.args.name.now c.args.index (ap (λ span. offset_of span c.args.index) (sym c.requires.span) ∙ sym c.offset.ensures.value ∙ c.in-None-offset.is)

pub returns-in-None : goal.returns-in-None
returns-in-None c =
    ap (λ (t : NetTable). t.count) (c.self.view_is ∙ c.requires.table) ∙ place-no_net c.args.module_nets.now c.args.name.now c.args.index (sym c.requires.found ∙ c.in-None.is)
