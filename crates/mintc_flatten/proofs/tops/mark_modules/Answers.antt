use Rattle.std.proofs.Common.{◌≡◌, ap, sym, ◌∙◌}
use Rattle.mintc_flatten_hierarchy.specs.Sources.{source_of, module_at, no_module, bindings_in}
use Rattle.std.proofs.lemmas.List.{get_or_read}
use Rattle.mintc_flatten_binding.proofs.SharedThereLaws.{kept_at}
use Rattle.mintc_flatten.proofs.TopLaws.{marks_step, marks_skip}
use Rattle.mintc_flatten.proofs.tops.mark_modules.Goals as goal

pub loop-number-preserved : goal.loop-number-preserved
loop-number-preserved c =
    let s = source_of c.args.cells.now c.args.modules.now in
    let n = c.loop-number.number in
    let m : c.index-modules-number.result ≡ module_at s n = get_or_read c.args.modules.now n c.index-modules-number.result c.loop-number-test.true c.index-modules-number.is no_module in
    let ts : c.items.result.now ≡ bindings_in s c.index-modules-number.result =
    c.items.ensures ∙ kept_at s (bindings_in s) c.args.bindings.now n c.index-bindings-number.result c.requires.bindings c.loop-number-test.true c.index-bindings-number.is ∙ ap (bindings_in s) (sym m) in
    marks_step s n c.loop-number.marks c.mark_all.new.marks c.index-modules-number.result c.items.result.now c.loop-number.invariant c.loop-number-test.true c.index-modules-number.is
    (sym c.is_stub.ensures ∙ c.if-is_stub.false) ts c.mark_all.ensures

pub loop-number-preserved-then-is_stub : goal.loop-number-preserved-then-is_stub
loop-number-preserved-then-is_stub c =
    marks_skip (source_of c.args.cells.now c.args.modules.now) c.loop-number.number c.loop-number.marks c.index-modules-number.result c.loop-number.invariant c.loop-number-test.true c.index-modules-number.is (sym c.is_stub.ensures ∙ c.if-is_stub.true)
