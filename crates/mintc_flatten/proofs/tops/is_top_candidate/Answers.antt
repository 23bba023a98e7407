use Rattle.std.proofs.Common.{◌≡◌, ◌≤◌, length, filter, arith, ap, sym, ◌∙◌, not, bytes_eq, List, ℕ}
use Rattle.std.specs.Option.{option_copied}
use Rattle.std.proofs.lemmas.List.{get_or_read, take_all}
use Rattle.mintc_netlist.specs.declared.module.Module.{Module}
use Rattle.mintc_flatten_hierarchy.specs.Sources.{source_of, module_at, no_module, is_stub, modules_of}
use Rattle.mintc_flatten_hierarchy.specs.Refusals.{may_be_top, instantiates}
use Rattle.std.specs.List.{list_any}
use Rattle.mintc_flatten_binding.specs.Orders.{mark_at}
use Rattle.mintc_flatten.proofs.TopLaws.{no_top, top_as}
use Rattle.mintc_flatten.proofs.tops.is_top_candidate.Goals as goal

pub returns-then-is_stub : goal.returns-then-is_stub
returns-then-is_stub c =
    let s = source_of c.args.cells.now c.args.modules.now in
    let m : c.index-modules-number.result ≡ module_at s c.args.number = get_or_read c.args.modules.now c.args.number c.index-modules-number.result c.requires.number c.index-modules-number.is no_module in
    no_top s c.args.number c.index-modules-number.result (may_be_top s (option_copied c.args.top) c.args.number) m (sym c.is_stub.ensures ∙ c.if-is_stub.true)

pub returns-in-Some : goal.returns-in-Some
returns-in-Some c =
    let s = source_of c.args.cells.now c.args.modules.now in
    let m : c.index-modules-number.result ≡ module_at s c.args.number = get_or_read c.args.modules.now c.args.number c.index-modules-number.result c.requires.number c.index-modules-number.is no_module in
    top_as s c.args.number c.index-modules-number.result (may_be_top s (option_copied c.args.top) c.args.number) c.eq.result m (sym c.is_stub.ensures ∙ c.if-is_stub.false)
    (c.eq.ensures ∙ ap (λ (name : List ℕ). bytes_eq name c.bytes-in-Some.result.now) c.bytes.ensures ∙ ap (bytes_eq c.in-Some.name.now) (c.bytes-in-Some.ensures ∙ ap (λ (x : Module). x.name) m)
    ∙ ap (λ o. may_be_top s (option_copied o) c.args.number) (sym c.in-Some.is))

pub returns-in-None : goal.returns-in-None
returns-in-None c =
    let s = source_of c.args.cells.now c.args.modules.now in
    let m : c.index-modules-number.result ≡ module_at s c.args.number = get_or_read c.args.modules.now c.args.number c.index-modules-number.result c.requires.number c.index-modules-number.is no_module in
    let whole : length c.args.modules.now ≤ length c.args.modules.now = omega arith in
    let marked : mark_at c.args.marks.now c.args.number ≡ list_any (instantiates s c.args.number) (modules_of s) =
    c.requires.marks.each c.args.number c.requires.number
    ∙ ap (λ (ms : List Module). list_any (instantiates s c.args.number) (filter (λ m. not (is_stub s m)) ms)) (take_all (length c.args.modules.now) c.args.modules.now whole) in
    top_as s c.args.number c.index-modules-number.result (may_be_top s (option_copied c.args.top) c.args.number) (not (mark_at c.args.marks.now c.args.number)) m (sym c.is_stub.ensures ∙ c.if-is_stub.false)
    (ap not marked ∙ ap (λ o. may_be_top s (option_copied o) c.args.number) (sym c.in-None.is))
