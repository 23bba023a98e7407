use Rattle.std.proofs.Common.{◌≡◌, ◌<◌, ℕ, List, true, false, bytes_eq, length, slice_index, sym, ap, subst, ◌∙◌, arith}
use Rattle.std.proofs.lemmas.List.{length-map, get_or_read}
use Rattle.mintc_netlist.specs.declared.module.Module.{Module}
use Rattle.mintc_flatten_hierarchy.specs.declared.bindings.Binding.{Binding}
use Rattle.mintc_flatten_hierarchy.specs.Sources.{source_of, module_at, no_module, is_called, bindings_in}
use Rattle.mintc_flatten_rules.specs.Searching.{with_bindings}
use Rattle.mintc_flatten_binding.proofs.SharedThereLaws.{kept_at}
use Rattle.mintc_flatten_rules.proofs.SearchLaws.{begun, passed_one, leads_to, leads_not}
use Rattle.mintc_flatten_rules.proofs.recursive.leads.Goals as goal

pub loop-place-init : goal.loop-place-init
loop-place-init c =
    let s = source_of c.args.cells.now c.args.modules.now in
    let both = begun s c.args.name.now c.args.start c.in_ok-search.search c.visit.new.self c.in_ok-search.ensures.visited c.in_ok-search.ensures.seen c.in_ok-visit.ensures.there c.in_ok-visit.ensures.found in
    record { found = both.0; passed = both.1 }

pub loop-place-preserved : goal.loop-place-preserved
loop-place-preserved c =
    let s = source_of c.args.cells.now c.args.modules.now in
    let f = c.loop-place.search in
    let k = c.number-number.result in
    let inside : c.loop-place.place < length f.visited = omega (arith, c.len.ensures, c.if-place-len.false) in
    let low : k < length c.args.modules.now = subst (λ (n : ℕ). n < length c.args.modules.now) (sym c.number-number.ensures) (c.loop-place.invariant.found.within c.loop-place.place inside) in
    let m : c.index-modules-number.result ≡ module_at s k = get_or_read c.args.modules.now k c.index-modules-number.result low c.index-modules-number.is no_module in
    let place : module_at s k ≡ module_at s (slice_index f.visited c.loop-place.place) = ap (module_at s) c.number-number.ensures in
    let other : is_called c.args.name.now (module_at s (slice_index f.visited c.loop-place.place)) ≡ false =
    sym (ap (bytes_eq c.args.name.now) (c.bytes.ensures ∙ ap (λ (x : Module). x.name) (sym c.index-modules-number.is ∙ m ∙ place))) ∙ sym c.eq.ensures ∙ c.if-eq.false in
    let ts : c.items.result.now ≡ bindings_in s (module_at s (slice_index f.visited c.loop-place.place)) =
    c.items.ensures ∙ kept_at s (bindings_in s) c.args.bindings.now k c.index-bindings-number.result c.requires low c.index-bindings-number.is ∙ ap (bindings_in s) place in
    let both = passed_one s c.args.name.now c.args.start f c.visit_all.new.self c.loop-place.place c.loop-place.invariant.found c.loop-place.invariant.passed inside other
    (c.in_ok-visit_all.ensures ∙ ap (with_bindings f) ts) in
    record { found = both.0; passed = both.1 }

pub returns-then-place-len : goal.returns-then-place-len
returns-then-place-len c =
    leads_not (source_of c.args.cells.now c.args.modules.now) c.args.name.now c.args.start c.loop-place.search c.loop-place.place c.loop-place.invariant.found c.loop-place.invariant.passed
    (omega (arith, c.len.ensures, c.if-place-len.true))

pub returns-then-eq : goal.returns-then-eq
returns-then-eq c =
    let s = source_of c.args.cells.now c.args.modules.now in
    let f = c.loop-place.search in
    let k = c.number-number.result in
    let inside : c.loop-place.place < length f.visited = omega (arith, c.len.ensures, c.if-place-len.false) in
    let low : k < length c.args.modules.now = subst (λ (n : ℕ). n < length c.args.modules.now) (sym c.number-number.ensures) (c.loop-place.invariant.found.within c.loop-place.place inside) in
    let m : c.index-modules-number.result ≡ module_at s k = get_or_read c.args.modules.now k c.index-modules-number.result low c.index-modules-number.is no_module in
    let place : module_at s k ≡ module_at s (slice_index f.visited c.loop-place.place) = ap (module_at s) c.number-number.ensures in
    let called : is_called c.args.name.now (module_at s (slice_index f.visited c.loop-place.place)) ≡ true =
    sym (ap (bytes_eq c.args.name.now) (c.bytes.ensures ∙ ap (λ (x : Module). x.name) (sym c.index-modules-number.is ∙ m ∙ place))) ∙ sym c.eq.ensures ∙ c.if-eq.true in
    leads_to s c.args.name.now c.args.start f c.loop-place.place c.loop-place.invariant.found inside c.loop-place-test.true called

pub returns : goal.returns
returns c =
    leads_not (source_of c.args.cells.now c.args.modules.now) c.args.name.now c.args.start c.loop-place.search c.loop-place.place c.loop-place.invariant.found c.loop-place.invariant.passed
    (omega (arith, c.len-2.ensures, c.if-len-modules.false, c.loop-place-test.false))

pub bounds-bindings-number : goal.bounds-bindings-number
bounds-bindings-number c =
    let inside : c.loop-place.place < length c.loop-place.search.visited = omega (arith, c.len.ensures, c.if-place-len.false) in
    let low : c.number-number.result < length c.args.modules.now = subst (λ (n : ℕ). n < length c.args.modules.now) (sym c.number-number.ensures) (c.loop-place.invariant.found.within c.loop-place.place inside) in
    let long : length c.args.bindings.now ≡ length c.args.modules.now = ap (λ (l : List (List Binding)). length l) c.requires ∙ length-map c.args.modules.now (bindings_in (source_of c.args.cells.now c.args.modules.now)) in
    omega (arith, long, low)
