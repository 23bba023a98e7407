use Rattle.std.proofs.Common.{◌≡◌, ℕ, List, false, is_some, sym, ap, not, ◌∙◌, arith}
use Rattle.std.proofs.lemmas.Grind.{common_steps}
use Rattle.mintc_cells.specs.Entries.{number_of}
use Rattle.mintc_flatten_hierarchy.specs.Sources.{is_stub}
use Rattle.mintc_flatten_binding.specs.NetsOfModules.{source_in}
use Rattle.mintc_flatten_hierarchy.specs.Faults.{is_misfit}
use Rattle.mintc_flatten_rules.proofs.FirstLaws.{modules-found, modules-none}
use Rattle.mintc_flatten_rules.proofs.WidthLaws.{own}
use Rattle.mintc_flatten_rules.proofs.widths.misfit.Goals as goal

pub returns-then-is_some-2 : goal.returns-then-is_some-2
returns-then-is_some-2 c =
    let s = source_in c.args.source.now in
    let live : is_some (number_of c.args.source.now.cells.now c.part-item.result.name) ≡ false =
    ap (λ (name : List ℕ). is_some (number_of c.args.source.now.cells.now name)) (sym c.bytes.ensures) ∙ ap is_some (sym c.find.ensures) ∙ sym c.is_some.ensures ∙ c.if-is_some.false in
    modules-found (is_misfit s) (λ m. not (is_stub s m)) (own s) c.args.source.now.modules.now c.loop-number.number c.part-item.result c.in_ok-first.first
    c.loop-number-test.true c.part-item.is (ap not live) c.in_ok-first.ensures (sym c.is_some-in-loop-number.ensures ∙ c.if-is_some-2.true) c.loop-number.invariant

pub returns : goal.returns
returns c =
    let s = source_in c.args.source.now in
    modules-none (is_misfit s) (λ m. not (is_stub s m)) (own s) c.args.source.now.modules.now c.loop-number.number c.loop-number-test.false c.loop-number.invariant

pub loop-number-preserved-then-is_some : goal.loop-number-preserved-then-is_some
loop-number-preserved-then-is_some c = grind (arith, common_steps)

pub loop-number-preserved : goal.loop-number-preserved
loop-number-preserved c = grind (arith, common_steps)
