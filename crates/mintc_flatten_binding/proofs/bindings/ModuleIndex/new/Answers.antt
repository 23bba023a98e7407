use Rattle.std.proofs.Common.{◌≡◌, ◌≤◌, ◌+◌, ℕ, List, ◌++◌, ◌∷◌, [], cond, take, length, subst, sym, ap, ◌∙◌, arith}
use Rattle.std.proofs.lemmas.List.{take_more, length-take-le}
use Rattle.mintc_netlist.specs.declared.module.Module.{Module}
use Rattle.mintc_text_names.specs.Names.{is_among, with_name}
use Rattle.mintc_flatten_binding.specs.Named.{IsIndex}
use Rattle.mintc_flatten_binding.proofs.IndexLaws.{index_step}
use Rattle.mintc_flatten_binding.proofs.bindings.ModuleIndex.new.Goals as goal

pub loop-number-preserved : goal.loop-number-preserved
loop-number-preserved c =
    let m = c.index-modules-number.result in
    let n = c.loop-number.number in
    let ms = c.args.modules.now in
    let inside = c.loop-number-test.true in
    let bound : n ≤ length ms = omega arith in
    let more : take (n + 1) ms ≡ take n ms ++ m ∷ [] = take_more ms n m inside ∙ ap (λ (x : Module). take n ms ++ x ∷ []) (sym c.index-modules-number.is) in
    let step = index_step c.loop-number.names c.loop-number.numbers.items (take n ms) m c.note.new.names c.note.new.numbers.items n c.loop-number.invariant (sym (length-take-le n ms bound))
    (c.in_ok-note.ensures.names ∙ ap (λ (name : List ℕ). with_name c.loop-number.names name) c.bytes.ensures)
    (c.in_ok-note.ensures.numbers ∙ ap (λ (name : List ℕ). cond (is_among name c.loop-number.names) c.loop-number.numbers.items (c.loop-number.numbers.items ++ n ∷ [])) c.bytes.ensures) in
    subst (λ (front : List Module). IsIndex c.note.new.names c.note.new.numbers.items front) (sym more) step
