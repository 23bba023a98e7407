use Rattle.std.proofs.Common.{◌≡◌, ℕ, List, false, is_some, sym, ap, not, ◌∙◌}
use Rattle.mintc_cells.specs.Entries.{number_of}
use Rattle.mintc_flatten_hierarchy.specs.Sources.{source_of, is_stub}
use Rattle.mintc_flatten_rules.proofs.AgainLaws.{again_found, again_none}
use Rattle.mintc_flatten_rules.proofs.name_twice.first_in_modules.Goals as goal

pub returns-then-is_some-2 : goal.returns-then-is_some-2
returns-then-is_some-2 c =
    let s = source_of c.args.cells.now c.args.modules.now in
    let live : is_some (number_of c.args.cells.now c.module-item.result.name) ≡ false =
    ap (λ (name : List ℕ). is_some (number_of c.args.cells.now name)) (sym c.bytes.ensures) ∙ ap is_some (sym c.find.ensures) ∙ sym c.is_some.ensures ∙ c.if-is_some.false in
    again_found (λ m. not (is_stub s m)) c.loop-module.names c.args.modules.now c.loop-module.module-index c.module-item.result c.in_ok-first.first
    c.loop-module-test.true c.module-item.is (ap not live) c.in_ok-first.ensures.first (sym c.is_some-in-loop-module.ensures ∙ c.if-is_some-2.true) c.loop-module.invariant

pub returns : goal.returns
returns c = again_none (λ m. not (is_stub (source_of c.args.cells.now c.args.modules.now) m)) c.loop-module.names c.args.modules.now c.loop-module.module-index c.loop-module-test.false c.loop-module.invariant
