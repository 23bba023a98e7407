use Rattle.std.proofs.Common.{◌≡◌, ℕ, List, false, is_some, sym, refl, ap, not, ◌∙◌}
use Rattle.mintc_cells.specs.Entries.{number_of}
use Rattle.mintc_flatten_hierarchy.specs.Sources.{source_of, is_stub}
use Rattle.mintc_flatten_hierarchy.specs.Faults.{is_no_module}
use Rattle.mintc_flatten_rules.proofs.FirstLaws.{modules-found, modules-none}
use Rattle.mintc_flatten_rules.proofs.no_module.no_module.Goals as goal

pub returns-then-is_some-2 : goal.returns-then-is_some-2
returns-then-is_some-2 c =
    let s = source_of c.args.cells.now c.args.modules.now in
    let live : is_some (number_of c.args.cells.now c.index-modules-number.result.name) ≡ false =
    ap (λ (name : List ℕ). is_some (number_of c.args.cells.now name)) (sym c.bytes.ensures) ∙ ap is_some (sym c.find.ensures) ∙ sym c.is_some.ensures ∙ c.if-is_some.false in
    modules-found (is_no_module s) (λ m. not (is_stub s m)) (λ earlier m before i. refl) c.args.modules.now c.loop-number.number c.index-modules-number.result c.first_missing-first.result
    c.loop-number-test.true c.index-modules-number.is (ap not live) c.first_missing-first.ensures (sym c.is_some-in-loop-number.ensures ∙ c.if-is_some-2.true) c.loop-number.invariant

pub returns : goal.returns
returns c =
    let s = source_of c.args.cells.now c.args.modules.now in
    modules-none (is_no_module s) (λ m. not (is_stub s m)) (λ earlier m before i. refl) c.args.modules.now c.loop-number.number c.loop-number-test.false c.loop-number.invariant
